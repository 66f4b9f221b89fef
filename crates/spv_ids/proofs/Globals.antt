-- Up to an instruction of section 9 no function begins.
use Rattle.std.proofs.Common.{◌≡◌, ◌<◌, ◌≤◌, ◌+◌, ℕ, zero, suc, subst, List, [], ◌∷◌, Some, length, get_or, arith}
use Rattle.std.specs.Prelude.{slice_get}
use Rattle.std.proofs.lemmas.Option.{slice_get-get_or}
use Rattle.std.proofs.lemmas.List.{length-map}
use Rattle.spv_module.specs.Operand.{PlainInst}
use Rattle.spv_layout.specs.declared.class.Class.{Class}
use Rattle.spv_layout.specs.declared.class.Class.TheVariants.{Body, Function, FunctionEnd}
use Rattle.spv_layout.specs.Class.{is_among}
use Rattle.spv_layout.specs.Rows.{class_of}
use Rattle.spv_layout.specs.Layout.{classes}
use Rattle.spv_layout.specs.Place.{IsLast, IsOfFunction, IsOfSection}
use Rattle.spv_layout.specs.inner.Span.{Span, Outside, UpTo, Before, entered, left}
use Rattle.spv_layout.proofs.Spans.{before_first, enters, leaves}
use Rattle.spv_ids.proofs.Opens.{not_global}

-- the class of an instruction
class_here : (is : List PlainInst) (n : ℕ) → n < length is → (c : Class) × (slice_get (classes is) n ≡ Some c)
class_here is n h =
    let l = length-map is (λ (i : PlainInst). class_of i.opcode) in
    let d : n < length (classes is) = omega arith in
    (get_or (classes is) n Body, slice_get-get_or (classes is) n Body d)

-- which function is open
spanned : (is : List PlainInst) (n : ℕ) → n < length is → (s : Span) × UpTo is Function (FunctionEnd ∷ []) n s
spanned is zero h =
    let c = class_here is 0 h in (
      entered Outside (is_among c.0 (Function ∷ [])) 0,
      enters is Function (FunctionEnd ∷ []) 0 c.0 Outside h c.1 (before_first is Function (FunctionEnd ∷ [])),
    )
spanned is (suc n) h =
    let b : n < length is = omega arith in
    let u = spanned is n b in
    let d = class_here is n b in
    let c = class_here is (suc n) h in
    let s = left u.0 (is_among d.0 (FunctionEnd ∷ [])) in
    let e : n + 1 ≡ suc n = omega arith in
    let t = subst (λ m. Before is Function (FunctionEnd ∷ []) m s) e
    (leaves is Function (FunctionEnd ∷ []) n d.0 u.0 d.1 u.1) in
    (entered s (is_among c.0 (Function ∷ [])) (suc n), enters is Function (FunctionEnd ∷ []) (suc n) c.0 s h c.1 t)

none_open : (is : List PlainInst) (n k f : ℕ) (s : Span) → UpTo is Function (FunctionEnd ∷ []) n s
    → ((g : ℕ) → ¬ (IsLast is Function n g)) → k ≤ n → ¬ (IsOfFunction is k f)
none_open is n k f _ (UpTo.outside h g) x l o = let u = o.begun.up_to in g f (omega arith) o.begun.there
none_open is n k f _ (UpTo.within g w) x l o = x g w.begun
none_open is n k f _ (UpTo.after g e b p q a) x l o = x g b

none_last : (is : List PlainInst) (n s : ℕ) → s ≡ 11 → IsOfSection is n s → (g : ℕ) → ¬ (IsLast is Function n g)
none_last is n _ e (IsOfSection.early c s t q) = λ g o. not_global c (rw e at q)
none_last is n _ e (IsOfSection.global c t q h) = h
none_last is n _ e (IsOfSection.declaration c g t q l d) = absurd (omega (arith, e))
none_last is n _ e (IsOfSection.definition c g t q l d) = absurd (omega (arith, e))

pub none_up_to : (is : List PlainInst) (n s k f : ℕ) → n < length is → IsOfSection is n s → s ≡ 11 → k ≤ n
    → ¬ (IsOfFunction is k f)
none_up_to is n s k f h o e l = let u = spanned is n h in none_open is n k f u.0 u.1 (none_last is n s e o) l
