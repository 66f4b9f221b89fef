-- Walks through a function, and what is defined on them. [2.16.1]
use Rattle.std.specs.Prelude.{◌≡◌, ◌⊎◌, ℕ, suc, List, [], ◌∷◌, Bool, true, false, Option, Some, None, IsTrue, Contains}
use Rattle.std.specs.Prelude.{if◌then◌else◌}
use Rattle.spv_module.specs.Operand.{PlainInst}
use Rattle.spv_run.specs.Act.{Act, Function, Label}
use Rattle.spv_run.specs.At.{act_at, result_at}
use Rattle.spv_run.specs.inner.At.{targets, goes_on}
use Rattle.spv_run.proofs.Place.{IsLabel}

-- An instruction may come right after another: it follows it, or after a terminator it is the OpLabel of one of its
-- targets.
pub data Next (is : List PlainInst) (n m : ℕ) : Type 0 where
  follows : (a : Act) → act_at is n ≡ Some a → IsTrue (goes_on a) → m ≡ suc n → Next is n m
  jumps : (a : Act) (x : ℕ) → act_at is n ≡ Some a → Contains (targets a) x → IsLabel is m x → Next is n m

-- A walk: the OpFunction f, and instructions that may come one after the other. It ends at instruction n,
-- and `past` are its places before, the last of them first.
abbrev pub Walk : List PlainInst → ℕ → List ℕ → ℕ → Type 0
Walk is f [] n = (n ≡ f) × (act_at is f ≡ Some Function)
Walk is f (h ∷ past) n = Next is h n × Walk is f past h

-- an id is the result of one of the places
abbrev pub Defined : List PlainInst → List ℕ → ℕ → Type 0
Defined is [] x = ⊥
Defined is (h ∷ past) x = (result_at is h ≡ Some x) ⊎ Defined is past x

abbrev pub label_in : Option Act → Bool
label_in (Some Label) = true
label_in _ = false

-- whether an instruction is an OpLabel
unfoldable pub is_label : List PlainInst → ℕ → Bool
is_label is n = label_in (act_at is n)

-- of a walk that ends at instruction n, the places before its last OpLabel
abbrev pub before_label : List PlainInst → List ℕ → ℕ → List ℕ
before_label is [] n = []
before_label is (h ∷ past) n = if is_label is n then h ∷ past else before_label is past h

-- the last OpLabel among places, that of the block that they end in
abbrev pub last_label : List PlainInst → List ℕ → Option ℕ
last_label is [] = None
last_label is (h ∷ past) = if is_label is h then Some h else last_label is past
