-- Pairs that are taken one after another.
use Rattle.std.proofs.Common.{◌≡◌, ◌++◌, ◌∙◌, ◌+◌, ◌-◌, ◌≤◌, ◌<◌, ℕ, List, [], ◌∷◌, Some, length, take, drop}
use Rattle.std.proofs.Common.{slice_index, get_or, refl, ap, arith, length-append}
use Rattle.std.proofs.lemmas.List.{take-append-drop, take-append-le, drop-append-le, length-take-le}
use Rattle.spv_table.specs.Table.{Table}
use Rattle.spv_module.specs.declared.operand.Operand as declared
use Rattle.spv_module.specs.Module.{plain_operand, plain_operands}
use Rattle.spv_module.specs.Operand.{Plain, PlainInst, Id, Context, after}
use Rattle.spv_module.specs.Shape.{Slot, AsId, shape_of}
use Rattle.spv_module.specs.Spelling.{Takes}
use Rattle.spv_module.specs.Width.{switch_width}
use Rattle.spv_inst.specs.Flat.{Due, OneOf}
use Rattle.spv_inst.specs.inner.Pairs.{IsPair}
use Rattle.spv_inst.specs.inner.Reading.{between}
use Rattle.spv_inst.specs.inner.Sofar.{Sofar}
use Rattle.spv_inst.proofs.Between.{take_one}
use Rattle.spv_inst.proofs.Contexts.{first_kept}
use Rattle.spv_inst.proofs.Steps.{at_operand, at_parts}
use Rattle.spv_inst.proofs.Turns.{length-between, drop-between, settled_some, plain-push}

-- some words are taken as the operand of a slot, after which no parameter is due
pub slot_next : (G : Table) (c : Context) (pattern : List Due) (words : List ℕ) (out : List Plain) (s : Slot)
    (ds : List Due) (image : List ℕ) (first at end n : ℕ) (o : Plain)
    → Sofar G c pattern words out (OneOf s ∷ ds) (between image at end) (at - first) → first ≤ at → end ≤ length image
    → n ≤ end - at
    → Takes s.kind (shape_of G (after c out) s) o (take n (between image at end)) []
    → Sofar G c pattern words (out ++ (o ∷ [])) ds (between image (at + n) end) ((at + n) - first)
slot_next G c pattern words out s ds image first at end n o k f l w t =
    let b = length-between image at end l in
    let h1 : n ≤ length (between image at end) = omega arith in
    let s2 : Sofar G c pattern words out (OneOf s ∷ ds) (take n (between image at end) ++ drop n (between image at end))
    (at - first) = rw (take-append-drop n (between image at end)) k in
    let q : (at - first) + n ≡ (at + n) - first = omega arith in
    rw (length-take-le n (between image at end) h1, drop-between image at end n w, q) at
    (at_operand G c pattern words out s ds (at - first) o (take n (between image at end))
    (drop n (between image at end)) [] s2 t)

-- a pair is taken
pub pair_next : (G : Table) (c : Context) (pattern : List Due) (words : List ℕ) (out : List Plain) (ds : List Due)
    (a b : Slot) (image : List ℕ) (first at end n : ℕ) (o : Plain) (x : ℕ)
    → IsPair G ds a b → Sofar G c pattern words out ds (between image at end) (at - first) → first ≤ at → at + n < end
    → end ≤ length image
    → Takes a.kind (shape_of G (after c out) a) o (take n (between image at end)) [] → x ≡ slice_index image (at + n)
    → Sofar G c pattern words ((out ++ (o ∷ [])) ++ (Id x ∷ [])) ds (between image (at + n + 1) end)
    ((at + n + 1) - first)
pair_next G c pattern words out ds a b image first at end n o x p k f h l t i =
    let lb = length-between image at end l in
    let h0 : 0 < length (between image at end) = omega arith in
    let s1 : Sofar G c pattern words out (OneOf p.slot ∷ ds) (between image at end) (at - first) = rw p.repeated at
    (settled_some G c pattern words out ds (at - first) (between image at end) h0 k) in
    let s2 : Sofar G c pattern words out (OneOf a ∷ OneOf b ∷ ds) (between image at end)
    (at - first) = at_parts G c pattern words out p.slot ds (at - first) (between image at end) (a ∷ b ∷ []) s1
    (p.parts (after c out)) in
    let s3 = slot_next G c pattern words out a (OneOf b ∷ ds) image first at end n o s2 f l (omega arith) t in
    let g : Takes b.kind (shape_of G (after c (out ++ (o ∷ []))) b) (Id x) (take 1 (between image (at + n) end)) [] = rw
    (take_one image (at + n) end x h l i, p.id (after c (out ++ (o ∷ [])))) (Takes.id x) in
    slot_next G c pattern words (out ++ (o ∷ [])) b ds image first (at + n) end 1 (Id x) s3 (omega arith) l
    (omega arith) g

-- a pair of ids is taken
pub id_pair_next : (G : Table) (c : Context) (pattern : List Due) (words : List ℕ) (out : List Plain) (ds : List Due)
    (a b : Slot) (image : List ℕ) (first at end : ℕ) (x y : ℕ)
    → IsPair G ds a b → ((c : Context) → shape_of G c a ≡ AsId)
    → Sofar G c pattern words out ds (between image at end) (at - first) → first ≤ at → 2 ≤ end - at
    → end ≤ length image
    → x ≡ slice_index image at → y ≡ slice_index image (at + 1)
    → Sofar G c pattern words ((out ++ (Id x ∷ [])) ++ (Id y ∷ [])) ds (between image (at + 2) end) ((at + 2) - first)
id_pair_next G c pattern words out ds a b image first at end x y p q k f h l i j =
    let g : Takes a.kind (shape_of G (after c out) a) (Id x) (take 1 (between image at end)) [] = rw
    (take_one image at end x (omega arith) l i, q (after c out)) (Takes.id x) in
    let e : at + 1 + 1 ≡ at + 2 = omega arith in
    rw e at (pair_next G c pattern words out ds a b image first at end 1 (Id x) y p k f (omega arith) l g j)

-- the width of the cases stays
pub width_kept : (b : List PlainInst) (p : ℕ) (os : List Plain) (o : Plain) (w : ℕ)
    → switch_width (record { before = b; opcode = p; operands = os }) ≡ Some w
    → switch_width (record { before = b; opcode = p; operands = os ++ (o ∷ []) }) ≡ Some w
width_kept b p [] o w e = cc
width_kept b p (q ∷ os) o w e = rw (first_kept q os o) e

-- two operands are added to a list
pub record TwoPushed (n : ℕ) (os ps : List declared.Operand) (o p : declared.Operand) : Type 0 where
  pub room : n ≤ length ps
  pub kept : take n ps ≡ take n os
  pub length : length ps ≡ length os + 2
  pub plain : plain_operands (drop n ps) ≡ (plain_operands (drop n os) ++ (plain_operand o ∷ []))
      ++ (plain_operand p ∷ [])

pub two_pushed : (n : ℕ) (os qs ps : List declared.Operand) (o p : declared.Operand) → n ≤ length os
    → qs ≡ os ++ (o ∷ []) → ps ≡ qs ++ (p ∷ []) → TwoPushed n os ps o p
two_pushed n os qs ps o p r e f =
    let a = length-append os (o ∷ []) in
    let b = length-append (os ++ (o ∷ [])) (p ∷ []) in
    let r2 : n ≤ length (os ++ (o ∷ [])) = omega arith in
    let d : drop n ((os ++ (o ∷ [])) ++ (p ∷ [])) ≡ (drop n os ++ (o ∷ []))
    ++ (p ∷ []) = drop-append-le n (os ++ (o ∷ [])) (p ∷ []) r2
    ∙ ap (λ zs. zs ++ (p ∷ [])) (drop-append-le n os (o ∷ []) r) in
    rw (f, e)
    (record {
      room = omega arith;
      kept = take-append-le n (os ++ (o ∷ [])) (p ∷ []) r2 ∙ take-append-le n os (o ∷ []) r;
      length = omega arith;
      plain = ap plain_operands d ∙ (plain-push (drop n os ++ (o ∷ [])) _ p refl
          ∙ ap (λ zs. zs ++ (plain_operand p ∷ [])) (plain-push (drop n os) _ o refl));
    })

-- two numbers
pub two_of : (ks : List ℕ) → 2 ≤ length ks → length ks < 3 → ks ≡ get_or ks 0 0 ∷ get_or ks 1 0 ∷ []
two_of [] h l = absurd (omega arith)
two_of (x ∷ []) h l = absurd (omega arith)
two_of (x ∷ y ∷ []) h l = refl
two_of (x ∷ y ∷ z ∷ ks) h l = absurd (omega arith)
