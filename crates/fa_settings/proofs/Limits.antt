-- A string that spells no address, and one that is no identity.
use Rattle.std.proofs.Common.{◌≡◌, ℕ, List, subst}
use Rattle.std.specs.declared.net.socket_addr.SocketAddrV4.{SocketAddrV4}
use Rattle.toml.specs.Data.{string}
use Rattle.fa_settings.specs.Meanings.{IsWithin, Address, IsAddressText}

pub no_address : (text : List ℕ) → ((address : SocketAddrV4) → ¬ (IsAddressText text address)) → ¬ (IsWithin Address (string text))
no_address text none within =
    let same : within.0 ≡ text = (let e = within.1 in cc) in
    none within.2 (subst (λ (t : List ℕ). IsAddressText t within.2) same within.3)
