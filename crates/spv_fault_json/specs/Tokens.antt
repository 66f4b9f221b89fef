-- Members of a JSON object, as tokens. (Own.)
use Rattle.std.specs.Prelude.{◌++◌, ℕ, List, [], ◌∷◌, Option, Some, None, decimal}
use Rattle.json.specs.Token.{Token, begin_array, end_array, key as name, null, number, string}
use Rattle.spv_facts.specs.Keys.{member_name}
use Rattle.spv_facts.specs.declared.key.Key.{Key}

-- the name of a key's member
abbrev pub key_token : Key → Token
key_token k = name (member_name k)

abbrev pub number_token : ℕ → Token
number_token n = number (decimal n)

-- a number, or null where there is none
abbrev pub maybe_number : Option ℕ → List Token
maybe_number None = null ∷ []
maybe_number (Some n) = number_token n ∷ []

-- a member that is a text, or a number
abbrev pub text_member : List ℕ → List ℕ → List Token
text_member n text = name n ∷ string text ∷ []

abbrev pub number_member : List ℕ → ℕ → List Token
number_member n x = name n ∷ number_token x ∷ []

-- an array of the values that these tokens are
abbrev pub array : List Token → List Token
array values = begin_array ∷ values ++ end_array ∷ []
