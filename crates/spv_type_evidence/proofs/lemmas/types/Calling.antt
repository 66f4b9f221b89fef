-- A call, by its operands and its callee's type.
use Rattle.std.proofs.Common.{◌≡◌, ◌∙◌, ◌+◌, ℕ, zero, suc, List, [], ◌∷◌, Option, Some, None, refl, sym, ap, subst}
use Rattle.std.proofs.Common.{length, map, arith, option_and_then, option_map}
use Rattle.std.specs.Prelude.{slice_get, IsSomeAnd}
use Rattle.std.proofs.lemmas.List.{length-map}
use Rattle.spv_module.specs.Module.{plain_operand, plain_operands}
use Rattle.spv_module.specs.declared.operand.Operand.{Operand}
use Rattle.spv_table.specs.Table.{Table}
use Rattle.spv_module.specs.Operand.{Plain, OfType, Result, Id, PlainInst}
use Rattle.spv_module.specs.Width.{definition_of, type_of}
use Rattle.spv_module.specs.declared.fault.Rule.TheVariants.{Y8}
use Rattle.spv_module.specs.declared.opcode.TheConstants as opcode
use Rattle.spv_layout.specs.Place.{AreFew}
use Rattle.spv_type_kinds.specs.Operands.{ids_in}
use Rattle.spv_type_forms.specs.Parts.{id_in}
use Rattle.spv_type_forms.specs.Values.{types_of}
use Rattle.spv_type_rules.specs.Function.{function_type_in, signature_of, ReturnsAfter, CallsSoundly, CallsTyped}
use Rattle.spv_type_rules.specs.Function.{parameter_type_of}
use Rattle.spv_type_rules.specs.inner.Function.{IsSoundCall}
use Rattle.spv_evidence.specs.declared.evidence.Evidence.TheVariants as evidence
use Rattle.spv_evidence.specs.declared.evidence.Side.{Side}
use Rattle.spv_evidence.specs.declared.evidence.Side.TheVariants as side
use Rattle.spv_type_evidence.specs.types.Function.{Differs, Calls}
use Rattle.spv_type_evidence.specs.types.Evidence.{Shows}
use Rattle.spv_type_evidence.specs.types.inner.Known.{IsFunction, CallsOne}
use Rattle.spv_type_evidence.specs.types.inner.Differences.{AreOther, CallDiffers, IsCallable}

-- ids as operands
id_there : (xs : List ℕ) (k x : ℕ) → slice_get xs k ≡ Some x → slice_get (map Id xs) k ≡ Some (Id x)
id_there [] k x e = cc
id_there (y ∷ xs) zero x e = cc
id_there (y ∷ xs) (suc k) x e = id_there xs k x e

there_id : (xs : List ℕ) (k x : ℕ) → slice_get (map Id xs) k ≡ Some (Id x) → slice_get xs k ≡ Some x
there_id [] k x e = cc
there_id (y ∷ xs) zero x e = cc
there_id (y ∷ xs) (suc k) x e = there_id xs k x e

pub ids_length : (xs : List ℕ) → length (map Id xs) ≡ length xs
ids_length [] = refl
ids_length (x ∷ xs) = ap suc (ids_length xs)

-- as many types as arguments, and each that of the argument at its place
same_types : (is : List PlainInst) (vs xs us : List ℕ) → types_of is xs ≡ Some us → length vs ≡ length xs
    → ((k t x u : ℕ) → slice_get vs k ≡ Some t → slice_get xs k ≡ Some x → type_of is x ≡ Some u → t ≡ u) → vs ≡ us
same_types is [] [] us e l h = cc
same_types is [] (x ∷ xs) us e l h = absurd (let no : 0 ≡ suc (length xs) = l in omega arith)
same_types is (t ∷ vs) [] us e l h = absurd (let no : suc (length vs) ≡ 0 = l in omega arith)
same_types is (t ∷ vs) (x ∷ xs) us e l h =
    one
    (λ ws f. same_types is vs xs ws f (let more : suc (length vs) ≡ suc (length xs) = l in omega arith)
    (λ k a b c p q r. h (suc k) a b c p q r))
    (type_of is x)
    (types_of is xs)
    refl
    refl
    e
  where
    one : ((ws : List ℕ) → types_of is xs ≡ Some ws → vs ≡ ws) → (o : Option ℕ) (os : Option (List ℕ))
        → type_of is x ≡ o → types_of is xs ≡ os
        → option_and_then (λ v. option_map (λ ws. v ∷ ws) os) o ≡ Some us → t ∷ vs ≡ us
    one rest None os a b c = cc
    one rest (Some v) None a b c = cc
    one rest (Some v) (Some ws) a b c =
        let whole : v ∷ ws ≡ us = cc in
        let first : t ≡ v = h 0 t x v refl refl a in
        let later : vs ≡ ws = rest ws b in
        rw (first, later) whole

pub callable_sound : (is : List PlainInst) (i : PlainInst) (c : CallsOne is i)
    → IsCallable is c.function c.result_type c.rest → IsSoundCall is i
callable_sound is i c h =
    let typed : CallsTyped is c.function c.result_type c.found = of (signature_of is c.function) refl h.head in
    let soundly : CallsSoundly is c.result_type (Id c.callee ∷ c.rest) = rw (c.defined, c.typed) typed in
    rw c.operands soundly
  where
    of : (o : Option (List Plain)) → signature_of is c.function ≡ o
        → IsSomeAnd o (ReturnsAfter (Some c.result_type) (length c.rest))
        → signature_of is c.function ≡ Some (map Id (c.result_type ∷ c.found))
    of None q k = absurd k
    of (Some ts) q k =
        let s = c.shape.signature ts q in
        let at : ReturnsAfter (Some c.result_type) (length c.rest) (map Id (s.returned ∷ s.taken)) = subst
        (ReturnsAfter (Some c.result_type) (length c.rest)) s.all k in
        let first : c.result_type ≡ s.returned = let e : Some c.result_type ≡ Some s.returned = at.0 in cc in
        let count : length (map Id s.taken) ≡ length c.rest = at.1 in
        let xs = ids_in c.rest in
        let long : length c.rest ≡ length xs = ap length c.ids ∙ ids_length xs in
        let same : s.taken ≡ c.found =
        same_types is s.taken xs c.found c.typed (sym (ids_length s.taken) ∙ count ∙ long) (λ k t x u a b e.
        h.arguments (Id s.returned) (map Id s.taken) k (q ∙ ap Some s.all) t x u (id_there s.taken k t a)
        (rw c.ids (id_there xs k x b)) e)
        in
        q ∙ ap Some (s.all ∙ ap (λ r. Id r ∷ map Id s.taken) (sym first) ∙ ap (λ us. Id c.result_type ∷ map Id us) same)

pub call_shows : (G : Table) (is : List PlainInst) (n : ℕ) (i : PlainInst) (c : CallsOne is i) (s : Side)
    (wanted found : Option ℕ) → i.opcode ≡ opcode.FUNCTION_CALL
    → CallDiffers is c.function c.result_type c.rest s wanted found
    → Shows G is n i Y8 (evidence.Mismatch s wanted found (function_type_in c.function))
call_shows G is n i c s wanted found o (CallDiffers.head _ _ _ f) =
    let xs = ids_in c.rest in
    let calls : Calls is i c.function c.result_type xs = record {
      callee = c.callee;
      rest = c.rest;
      result = rw c.operands refl;
      operands = rw c.operands refl;
      defined = c.defined;
      arguments = refl;
    } in
    let long : length c.rest ≡ length xs = ap length c.ids ∙ ids_length xs in
    Shows.call c.function c.result_type xs s wanted found o calls
    (subst (λ m. Differs is c.function c.result_type m s wanted found) long f)
call_shows G is n i c _ _ _ o (CallDiffers.argument p ps k t u q a) =
    let xs = ids_in c.rest in
    let calls : Calls is i c.function c.result_type xs = record {
      callee = c.callee;
      rest = c.rest;
      result = rw c.operands refl;
      operands = rw c.operands refl;
      defined = c.defined;
      arguments = refl;
    } in
    let e : k + 1 ≡ suc k = omega arith in
    let next : option_and_then id_in (slice_get (p ∷ ps) (k + 1)) ≡ Some t = rw (e, a.taken) refl in
    let taken : parameter_type_of is c.function k ≡ Some t = rw q next in
    let there : slice_get (map Id xs) k ≡ Some (Id a.argument) = subst
    (λ (os : List Plain). slice_get os k ≡ Some (Id a.argument)) c.ids a.there in
    Shows.argument c.function c.result_type xs k t u o calls
    (record { argument = a.argument; taken = taken; there = there_id xs k a.argument there; typed = a.typed })
    a.other

-- operands of a call that are the same, and its callee
pub same_callee : (t x f u y g : ℕ) (rest others : List Plain)
    → OfType t ∷ Result x ∷ Id f ∷ rest ≡ OfType u ∷ Result y ∷ Id g ∷ others → f ≡ g
same_callee t x f u y g rest others e = cc

pub same_rest : (t x f u y g : ℕ) (rest others : List Plain)
    → OfType t ∷ Result x ∷ Id f ∷ rest ≡ OfType u ∷ Result y ∷ Id g ∷ others → rest ≡ others
same_rest t x f u y g rest others e = cc

pub same_function : (is : List PlainInst) (f g : ℕ) (c d : PlainInst) → definition_of is f ≡ Some c → f ≡ g
    → Some d ≡ definition_of is g → c ≡ d
same_function is f g c d a e b = let one : Some c ≡ Some d = sym a ∙ ap (definition_of is) e ∙ sym b in cc

-- the same call, by the operands and the definition that the code finds
abbrev pub found_call : (is : List PlainInst) (i : PlainInst) → CallsOne is i
    → (t x f : ℕ) (rest : List Plain) (d : PlainInst) → i.operands ≡ OfType t ∷ Result x ∷ Id f ∷ rest
    → Some d ≡ definition_of is f → CallsOne is i
found_call is i c t x f rest d e q =
    let same : OfType c.result_type ∷ Result c.result ∷ Id c.callee ∷ c.rest ≡ OfType t ∷ Result x ∷ Id f
    ∷ rest = sym c.operands ∙ e in
    let callee = same_callee c.result_type c.result c.callee t x f c.rest rest same in
    let others = same_rest c.result_type c.result c.callee t x f c.rest rest same in
    let function = same_function is c.callee f c.function d c.defined callee q in
    record {
      result_type = t;
      result = x;
      callee = f;
      rest = rest;
      operands = e;
      ids = subst (λ os. os ≡ map Id (ids_in os)) others c.ids;
      function = d;
      defined = sym q;
      shape = subst (IsFunction is) function c.shape;
      found = c.found;
      typed = subst (λ os. types_of is (ids_in os) ≡ Some c.found) others c.typed;
      few = subst (λ os. AreFew (ids_in os)) others c.few;
    }

pub head_differs : (is : List PlainInst) (d : PlainInst) (r : ℕ) (xs : List Operand) (s : Side)
    (wanted found : Option ℕ) → Differs is d r (length xs) s wanted found
    → CallDiffers is d r (plain_operands xs) s wanted found
head_differs is d r xs s wanted found f =
    CallDiffers.head s wanted found (subst (λ m. Differs is d r m s wanted found) (sym (length-map xs plain_operand)) f)

pub argument_differs : (is : List PlainInst) (d : PlainInst) (r t : ℕ) (os : List Plain) (ps : List Operand)
    (xs : List Operand) (k wanted found : ℕ) → Some os ≡ signature_of is d → os ≡ Id t ∷ plain_operands ps
    → AreOther is (plain_operands ps) (plain_operands xs) k wanted found
    → CallDiffers is d r (plain_operands xs) (side.Argument k) (Some wanted) (Some found)
argument_differs is d r t os ps xs k wanted found e f a =
    CallDiffers.argument (Id t) (plain_operands ps) k wanted found (sym e ∙ ap Some f) a

-- The id that an operand is, if it is one.

pub no_id : (o : Option Plain) (t : ℕ) → None ≡ option_and_then id_in o → o ≡ Some (Id t) → ⊥
no_id o t e h = let none : None ≡ Some t = e ∙ ap (λ p. option_and_then id_in p) h in cc

pub same_id : (o : Option Plain) (x t : ℕ) → Some x ≡ option_and_then id_in o → o ≡ Some (Id t) → x ≡ t
same_id o x t e h = let same : Some x ≡ Some t = e ∙ ap (λ p. option_and_then id_in p) h in cc

pub id_found : (o : Option Plain) (x : ℕ) → Some x ≡ option_and_then id_in o → o ≡ Some (Id x)
id_found (Some (Plain.Id y)) x e = let same : x ≡ y = cc in ap (λ z. Some (Id z)) (sym same)
id_found _ x e = cc
