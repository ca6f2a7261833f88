-- The bytes of a client have one reading: as a handshake, and as requests.
use Rattle.std.proofs.Common.{◌≡◌, ℕ, List, [], ◌∷◌, ◌++◌, length, take, map, refl, sym, ap, ◌∙◌, arith, append_assoc, append-nil, length-append, inl, inr}
use Rattle.std.proofs.lemmas.List.{take-append-le}
use Rattle.std.specs.List.{flat_map, AllByRecursion}
use Rattle.fa_cmds.specs.declared.request.Request.{Request}
use Rattle.fa_cmds.specs.declared.decision.Decision.TheVariants.{Disconnect as Leave}
use Rattle.fa_cmds.specs.Requests.{request_bytes, body_length, decision}
use Rattle.fa_nego.specs.Negotiation.{Negotiates}
use Rattle.fa_nego.specs.declared.step.Step.TheVariants.{Go}
use Rattle.fa_nego.proofs.OneHandshake.{one_handshake}
use Rattle.fa_types.proofs.BigEndian.{append-parts}
use Rattle.fa_cmds.proofs.Spelling.{length-request_bytes, take-request_bytes, one_request-ahead}
use Rattle.fa_session.specs.Exchanges.{Exchange, Outcome, Asked, NotAsked, NoneForData, MayCome, IsExchange, heard_of, asked_of, IsRest}

-- a request with data ends no connection
decided : (size : ℕ) (r : Request) (body : List ℕ) (outcome : Outcome) → MayCome size r body outcome → decision r size ≡ Leave → ⊥
decided size r body (Asked call answer) right leaves = let e = right.0 in cc
decided size r body (NotAsked code) right leaves = cc
decided size r body NoneForData right leaves = let e = right.0 in cc

-- what is left behind the last exchange does not begin with one
no-exchange : (size : ℕ) (e : Exchange) (more last : List ℕ) → IsExchange size e → IsRest size last → last ≡ heard_of e ++ more → ⊥
no-exchange size e more last whole (inl (inl short)) same =
    let long = ap length same in
    let bytes = length-request_bytes e.request in
    omega (arith, short, simp length-append at long, bytes)
no-exchange size e more last whole (inl (inr part)) same =
    let regrouped : request_bytes part.0 ++ part.1 ≡ request_bytes e.request ++ (e.body ++ more) = sym part.4 ∙ same ∙ append_assoc (request_bytes e.request) e.body more in
    let one = one_request-ahead part.0 e.request part.1 (e.body ++ more) part.2 whole.request_fits regrouped in
    let data_long = ap length one.1 in
    let same_length = ap body_length one.0 in
    omega (arith, part.3, simp length-append at data_long, same_length, whole.whole_body)
no-exchange size e more last whole (inr (inl bye)) same =
    let regrouped : request_bytes bye.0 ++ [] ≡ request_bytes e.request ++ (e.body ++ more) = append-nil (request_bytes bye.0) ∙ sym bye.2 ∙ same ∙ append_assoc (request_bytes e.request) e.body more in
    let one = one_request-ahead bye.0 e.request [] (e.body ++ more) bye.1 whole.request_fits regrouped in
    decided size e.request e.body e.outcome whole.right (ap (λ r. decision r size) (sym one.0) ∙ bye.3)
no-exchange size e more last whole (inr (inr wrong)) same =
    wrong.1 (ap (take 4) (same ∙ append_assoc (request_bytes e.request) e.body more) ∙ take-append-le 4 (request_bytes e.request) (e.body ++ more) (let e28 = length-request_bytes e.request in omega (arith, e28)) ∙ take-request_bytes e.request)

pub one_reading : (size : ℕ) (es fs : List Exchange) (last rest : List ℕ) → AllByRecursion (IsExchange size) es → AllByRecursion (IsExchange size) fs → IsRest size last → IsRest size rest
    → flat_map heard_of es ++ last ≡ flat_map heard_of fs ++ rest → (map asked_of es ≡ map asked_of fs) × (last ≡ rest)
one_reading size [] [] last rest left right ends ends' same = (refl, same)
one_reading size [] (f ∷ fs) last rest left right ends ends' same =
    absurd (no-exchange size f (flat_map heard_of fs ++ rest) last right.0 ends (same ∙ append_assoc (heard_of f) (flat_map heard_of fs) rest))
one_reading size (e ∷ es) [] last rest left right ends ends' same =
    absurd (no-exchange size e (flat_map heard_of es ++ last) rest left.0 ends' (sym same ∙ append_assoc (heard_of e) (flat_map heard_of es) last))
one_reading size (e ∷ es) (f ∷ fs) last rest left right ends ends' same =
    let behind-e = flat_map heard_of es ++ last in
    let behind-f = flat_map heard_of fs ++ rest in
    let regrouped : request_bytes e.request ++ (e.body ++ behind-e) ≡ request_bytes f.request ++ (f.body ++ behind-f) =
    sym (append_assoc (heard_of e) (flat_map heard_of es) last ∙ append_assoc (request_bytes e.request) e.body behind-e)
    ∙ same
    ∙ append_assoc (heard_of f) (flat_map heard_of fs) rest ∙ append_assoc (request_bytes f.request) f.body behind-f in
    let one = one_request-ahead e.request f.request (e.body ++ behind-e) (f.body ++ behind-f) left.0.request_fits right.0.request_fits regrouped in
    let bodies = append-parts e.body behind-e f.body behind-f (left.0.whole_body ∙ ap body_length one.0 ∙ sym right.0.whole_body) one.1 in
    let others = one_reading size es fs last rest left.1 right.1 ends ends' bodies.1 in
    (ap (λ r. (r, e.body) ∷ map asked_of es) one.0 ∙ ap (λ b. (f.request, b) ∷ map asked_of es) bodies.0 ∙ ap (λ t. asked_of f ∷ t) others.0, others.1)

-- the same, from the first byte of a connection on
pub one_connection : (export : List ℕ) (size : ℕ) (heard heard' said said' : List ℕ) (es fs : List Exchange) (last rest : List ℕ) → Negotiates export size heard said Go → Negotiates export size heard' said' Go
    → AllByRecursion (IsExchange size) es → AllByRecursion (IsExchange size) fs → IsRest size last → IsRest size rest
    → heard ++ (flat_map heard_of es ++ last) ≡ heard' ++ (flat_map heard_of fs ++ rest)
    → (heard ≡ heard') × (said ≡ said') × (map asked_of es ≡ map asked_of fs) × (last ≡ rest)
one_connection export size heard heard' said said' es fs last rest is is' left right ends ends' same =
    let behind-e : List ℕ = flat_map heard_of es ++ last in
    let behind-f : List ℕ = flat_map heard_of fs ++ rest in
    let one = one_handshake export size heard heard' behind-e behind-f said said' Go Go is is' (λ more. cc) (λ more. cc) same in
    let behind = append-parts heard behind-e heard' behind-f (ap length one.0) same in
    let requests = one_reading size es fs last rest left right ends ends' behind.1 in
    (one.0, one.1, requests.0, requests.1)
