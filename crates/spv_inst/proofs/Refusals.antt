-- The same words are refused in one way, and not where they are taken.
use Rattle.std.proofs.Common.{◌≡◌, ◌≢◌, ◌++◌, ◌∙◌, ℕ, List, [], ◌∷◌, length, refl, sym, ap, arith, append_assoc}
use Rattle.std.specs.List.{AllByRecursion}
use Rattle.spv_module.specs.Operand.{Plain}
use Rattle.spv_module.specs.Shape.{Slot, Shape, AsParts}
use Rattle.spv_module.specs.Spelling.{octets_of, HoldsText, AreZeros, Takes, result_type, result, id, word, narrow}
use Rattle.spv_module.specs.Spelling.{wide, text, value, mask}
use Rattle.spv_module.specs.declared.fault.Rule.{Rule}
use Rattle.spv_module.specs.Refusal.{ShapeRefuses, IsLeaf, missing, half, unknown_value, unknown_bit, endless, padded}
use Rattle.spv_module.specs.Refusal.{no_text, no_width, no_form}
use Rattle.spv_inst.proofs.Texts.{text_same, octets-append}
use Rattle.spv_inst.proofs.Takes.{text_nonempty}
use Rattle.spv_inst.proofs.Flat.{nonempty-append}

zero_in : (t p : List ℕ) → AllByRecursion (λ b. b ≢ 0) (t ++ (0 ∷ p)) → ⊥
zero_in [] p h = h.0 refl
zero_in (x ∷ t) p h = zero_in t p h.1

holds_zero : (ws t p us : List ℕ) → HoldsText ws t p → AllByRecursion (λ b. b ≢ 0) (octets_of (ws ++ us)) → ⊥
holds_zero ws t p us h a =
    let e : octets_of (ws ++ us) ≡ t ++ (0 ∷ (p ++ octets_of us)) =
    octets-append ws us ∙ (ap (λ zs. zs ++ octets_of us) h.octets ∙ append_assoc t (0 ∷ p) (octets_of us)) in
    zero_in t (p ++ octets_of us) (rw e at a)

endless_text : (ws t p us vs : List ℕ) → HoldsText ws t p → AllByRecursion (λ b. b ≢ 0) (octets_of vs) → ws ++ us ≡ vs
    → ⊥
endless_text ws t p us vs h a e = holds_zero ws t p us h (rw (← e) at a)

same_zeros : (p q : List ℕ) → p ≡ q → AreZeros p → AreZeros q
same_zeros p q e z = rw e at z

same_utf8 : (t s : List ℕ) → t ≡ s → Rattle.std.specs.Prelude.IsUtf8 t → Rattle.std.specs.Prelude.IsUtf8 s
same_utf8 t s e z = rw e at z

pub record SameRefusal (a b : Rule) (n m : ℕ) : Type 0 where
  pub code : a ≡ b
  pub place : n ≡ m

nothing_left : (ws us t p : List ℕ) → HoldsText ws t p → [] ≡ ws ++ us → ⊥
nothing_left ws us t p h e = nonempty-append ws us (text_nonempty ws t p h) (sym e)

pub refuse_same : (sh : Shape) (us vs : List ℕ) (a b : Rule) (n m : ℕ) → ShapeRefuses sh us a n → ShapeRefuses sh vs b m
    → us ≡ vs → SameRefusal a b n m
refuse_same _ _ _ _ _ _ _ (missing sh h) (missing _ g) e = record { code = refl; place = refl }
refuse_same _ _ _ _ _ _ _ (missing sh h) (half w x g) e = cc
refuse_same _ _ _ _ _ _ _ (missing sh h) (unknown_value es x us g) e = cc
refuse_same _ _ _ _ _ _ _ (missing sh h) (unknown_bit es x us g) e = cc
refuse_same _ _ _ _ _ _ _ (missing sh h) (endless u us g) e = cc
refuse_same _ _ _ _ _ _ _ (missing sh h) (padded t ws p us n g z l) e = absurd (nothing_left ws us t p g e)
refuse_same _ _ _ _ _ _ _ (missing sh h) (no_text t ws p us g z l) e = absurd (nothing_left ws us t p g e)
refuse_same _ _ _ _ _ _ _ (missing sh h) (no_width x us) e = cc
refuse_same _ _ _ _ _ _ _ (missing sh h) (no_form x us) e = cc
refuse_same _ _ _ _ _ _ _ (half w x h) (missing _ g) e = cc
refuse_same _ _ _ _ _ _ _ (half w x h) (half _ y g) e = record { code = refl; place = refl }
refuse_same _ _ _ _ _ _ _ (unknown_value es x us h) (missing _ g) e = cc
refuse_same _ _ _ _ _ _ _ (unknown_value es x us h) (unknown_value _ y vs g) e = record { code = refl; place = refl }
refuse_same _ _ _ _ _ _ _ (unknown_bit es x us h) (missing _ g) e = cc
refuse_same _ _ _ _ _ _ _ (unknown_bit es x us h) (unknown_bit _ y vs g) e = record { code = refl; place = refl }
refuse_same _ _ _ _ _ _ _ (endless u us h) (missing _ g) e = cc
refuse_same _ _ _ _ _ _ _ (endless u us h) (endless v vs g) e = record { code = refl; place = refl }
refuse_same _ _ _ _ _ _ _ (endless u us h) (padded t ws p vs n g z l) e =
    absurd (endless_text ws t p vs (u ∷ us) g h (sym e))
refuse_same _ _ _ _ _ _ _ (endless u us h) (no_text t ws p vs g z l) e =
    absurd (endless_text ws t p vs (u ∷ us) g h (sym e))
refuse_same _ _ _ _ _ _ _ (padded t ws p us n h z l) (missing _ g) e = absurd (nothing_left ws us t p h (sym e))
refuse_same _ _ _ _ _ _ _ (padded t ws p us n h z l) (endless v vs g) e = absurd (endless_text ws t p us (v ∷ vs) h g e)
refuse_same _ _ _ _ _ _ _ (padded t ws p us n h z l) (padded s xs q vs m g y k) e =
    let r = text_same ws xs t s p q us vs h g e in
    let w : length ws ≡ length xs = ap length r.words in
    record { code = refl; place = omega arith }
refuse_same _ _ _ _ _ _ _ (padded t ws p us n h z l) (no_text s xs q vs g y k) e =
    let r = text_same ws xs t s p q us vs h g e in
    absurd (z (same_zeros q p (sym r.paddings) y))
refuse_same _ _ _ _ _ _ _ (no_text t ws p us h z l) (missing _ g) e = absurd (nothing_left ws us t p h (sym e))
refuse_same _ _ _ _ _ _ _ (no_text t ws p us h z l) (endless v vs g) e = absurd (endless_text ws t p us (v ∷ vs) h g e)
refuse_same _ _ _ _ _ _ _ (no_text t ws p us h z l) (padded s xs q vs m g y k) e =
    let r = text_same ws xs t s p q us vs h g e in
    absurd (y (same_zeros p q r.paddings z))
refuse_same _ _ _ _ _ _ _ (no_text t ws p us h z l) (no_text s xs q vs g y k) e = record { code = refl; place = refl }
refuse_same _ _ _ _ _ _ _ (no_width x us) (missing _ g) e = cc
refuse_same _ _ _ _ _ _ _ (no_width x us) (no_width y vs) e = record { code = refl; place = refl }
refuse_same _ _ _ _ _ _ _ (no_form x us) (missing _ g) e = cc
refuse_same _ _ _ _ _ _ _ (no_form x us) (no_form y vs) e = record { code = refl; place = refl }

taken_nothing : (ws us : List ℕ) → ws ≢ [] → ws ++ us ≡ [] → ⊥
taken_nothing ws us h e = nonempty-append ws us h e

pub takes_refuses : (k : ℕ) (sh : Shape) (o : Plain) (ws : List ℕ) (ss : List Slot) (us vs : List ℕ) (a : Rule) (n : ℕ)
    → Takes k sh o ws ss → ShapeRefuses sh vs a n → ws ++ us ≡ vs → ⊥
takes_refuses k _ _ _ _ us _ _ _ (result_type x) (missing _ h) e = cc
takes_refuses k _ _ _ _ us _ _ _ (result x) (missing _ h) e = cc
takes_refuses k _ _ _ _ us _ _ _ (id x) (missing _ h) e = cc
takes_refuses k _ _ _ _ us _ _ _ (word x) (missing _ h) e = cc
takes_refuses k _ _ _ _ us _ _ _ (narrow w x g) (missing _ h) e = cc
takes_refuses k _ _ _ _ us _ _ _ (narrow w x g) (half _ y h) e = omega arith
takes_refuses k _ _ _ _ us _ _ _ (wide w x y g) (missing _ h) e = cc
takes_refuses k _ _ _ _ us _ _ _ (wide w x y g) (half _ z h) e = cc
takes_refuses k _ _ _ _ us _ _ _ (text t ws p g z u) (missing _ h) e = taken_nothing ws us (text_nonempty ws t p g) e
takes_refuses k _ _ _ _ us _ _ _ (text t ws p g z u) (endless v vs h) e = endless_text ws t p us (v ∷ vs) g h e
takes_refuses k _ _ _ _ us _ _ _ (text t ws p g z u) (padded s xs q vs n h y l) e =
    let r = text_same ws xs t s p q us vs g h e in y (same_zeros p q r.paddings z)
takes_refuses k _ _ _ _ us _ _ _ (text t ws p g z u) (no_text s xs q vs h y l) e =
    let r = text_same ws xs t s p q us vs g h e in l (same_utf8 t s r.texts u)
takes_refuses k _ _ _ _ us _ _ _ (value es x ks g) (missing _ h) e = cc
takes_refuses k _ _ _ _ us _ _ _ (value es x ks g) (unknown_value _ y vs h) e = let z : x ≡ y = cc in cc
takes_refuses k _ _ _ _ us _ _ _ (mask es x ks g) (missing _ h) e = cc
takes_refuses k _ _ _ _ us _ _ _ (mask es x ks g) (unknown_bit _ y vs h) e = let z : x ≡ y = cc in cc

parts_leaf : (sh : Shape) (ts : List Slot) → sh ≡ AsParts ts → IsLeaf sh → ⊥
parts_leaf sh ts e h = rw e at h

pub parts_refuse : (sh : Shape) (us : List ℕ) (a : Rule) (n : ℕ) (ts : List Slot) → sh ≡ AsParts ts
    → ShapeRefuses sh us a n → ⊥
parts_refuse _ _ _ _ ts e (missing sh h) = parts_leaf sh ts e h
parts_refuse _ _ _ _ ts e (half w x g) = cc
parts_refuse _ _ _ _ ts e (unknown_value es x us g) = cc
parts_refuse _ _ _ _ ts e (unknown_bit es x us g) = cc
parts_refuse _ _ _ _ ts e (endless u us g) = cc
parts_refuse _ _ _ _ ts e (padded t ws p us n g z l) = cc
parts_refuse _ _ _ _ ts e (no_text t ws p us g z l) = cc
parts_refuse _ _ _ _ ts e (no_width x us) = cc
parts_refuse _ _ _ _ ts e (no_form x us) = cc
