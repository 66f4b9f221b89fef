-- Texts that are lent. (For the code alone.)
use Rattle.std.specs.Prelude.{ℕ, List}
use Rattle.std.specs.Borrow.{Bor}
use Rattle.json.specs.Token.{Token}
use Rattle.spv_fault_json.specs.Members.{name_token}

abbrev pub text_token : Bor (List ℕ) → List Token
text_token text = name_token text.now
