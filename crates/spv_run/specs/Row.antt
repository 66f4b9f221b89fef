-- Which values an instruction uses, and what its rule on types says of the types that are read for them. [own: the
-- table of types]
use Rattle.std.specs.Prelude.{ℕ, List, [], ◌∷◌, map, IsSomeAnd, slice_get}
use Rattle.spv_module.specs.Operand.{PlainInst, type_in}
use Rattle.spv_module.specs.Width.{definition_of}
use Rattle.spv_ops.specs.Values as rows
use Rattle.spv_ops.specs.Typed.{Typed}
use Rattle.spv_type_rules.specs.Function.{ReturnsNothing, ReturnsTyped, CallsTyped}
use Rattle.spv_run.specs.Act.{Act, Phi, Choose, Call, Return, ReturnValue, Other}

-- the values that an instruction uses, in order: its value operands [own]
abbrev pub values_of : PlainInst → Act → List ℕ
values_of i (Phi ps) = map (λ p. p.value) ps
values_of i (Choose c ls) = c ∷ []
values_of i (Call f xs) = xs
values_of i (ReturnValue v) = v ∷ []
values_of i Other = rows.values_of i
values_of i _ = []

-- What the rules on types say of instruction n of function f and of these types of the values that it uses: Y7 of a
-- return, Y8 of a call, and of any other instruction *Typed*, as where a module is checked (Y5). [own]
abbrev pub Row : List PlainInst → ℕ → ℕ → PlainInst → Act → List ℕ → Type 0
Row is f n i (Phi ps) tags = Typed is n i tags
Row is f n i (Choose c ls) tags = Typed is n i tags
Row is f n i (Call x xs) tags =
    IsSomeAnd (definition_of is x) (λ d. IsSomeAnd (type_in i.operands) (λ r. CallsTyped is d r tags))
Row is f n i Return tags = IsSomeAnd (slice_get is f) (λ d. ReturnsNothing is d)
Row is f n i (ReturnValue v) tags = IsSomeAnd (slice_get is f) (λ d. ReturnsTyped d tags)
Row is f n i Other tags = Typed is n i tags
Row is f n i _ tags = Unit {0}
