mod HeadBytes
