-- The first of the rules that uses break, one operand on.
use Rattle.std.proofs.Common.{◌≡◌, ◌∙◌, ◌<◌, ◌≤◌, ◌+◌, ℕ, List, refl, ap, inl, inr, Option, Some, None, length, map}
use Rattle.std.proofs.Common.{arith}
use Rattle.std.specs.Prelude.{slice_get, option_map, IfSome}
use Rattle.std.proofs.lemmas.Option.{slice_get-map, slice_get_within}
use Rattle.spv_module.specs.declared.operand.Operand.{Operand}
use Rattle.spv_module.specs.Operand.{Plain, PlainInst}
use Rattle.spv_module.specs.Module.{plain_operand}
use Rattle.spv_module.specs.declared.fault.Rule.{Rule}
use Rattle.spv_module.specs.declared.fault.Rule.TheVariants.{D1}
use Rattle.spv_layout.specs.First.{stage_of, rank_of}
use Rattle.spv_layout.specs.Stage.{of_ids}
use Rattle.spv_ids.specs.Broken.{IsOutOfRange}
use Rattle.spv_ids.specs.inner.Uses.{seen, seen_id, IsUsedBefore, AreSeen}
use Rattle.spv_ids.specs.inner.Faulty.{IsBadUse, IsBadMention, IsBadOperand, HasBadUse, HasBadOperand, IsFaulty}
use Rattle.spv_ids.specs.inner.Faulty.{IsLeast, IsEarlier}
use Rattle.spv_ids.proofs.Defining.{below_or, same_inst}

pub bad_stage : (bound : ℕ) (is : List PlainInst) (n x : ℕ) (r : Rule) → IsBadUse bound is n x r → stage_of r ≡ of_ids
bad_stage bound is n x _ (IsBadUse.out_of_range h) = refl
bad_stage bound is n x _ (IsBadUse.undefined h) = refl
bad_stage bound is n x _ (IsBadUse.not_in_order h g) = refl
bad_stage bound is n x _ (IsBadUse.not_in_scope h g k) = refl

pub has_stage : (bound : ℕ) (is : List PlainInst) (n to : ℕ) (r : Rule) → HasBadUse bound is n to r
    → stage_of r ≡ of_ids
has_stage bound is n to r h = bad_stage bound is n h.id r h.bad

mention_stage : (bound : ℕ) (is : List PlainInst) (x : ℕ) (r : Rule) → IsBadMention bound is x r → stage_of r ≡ of_ids
mention_stage bound is x _ (IsBadMention.out_of_range h) = refl
mention_stage bound is x _ (IsBadMention.undefined h) = refl

pub operand_stage : (bound : ℕ) (is : List PlainInst) (n : ℕ) (o : Plain) (r : Rule) → IsBadOperand bound is n o r
    → stage_of r ≡ of_ids
operand_stage bound is n o r (IsBadOperand.argument x e b) = bad_stage bound is n x r b
operand_stage bound is n o r (IsBadOperand.mention x e b) = mention_stage bound is x r b

pub has_operand_stage : (bound : ℕ) (is : List PlainInst) (n to : ℕ) (r : Rule) → HasBadOperand bound is n to r
    → stage_of r ≡ of_ids
has_operand_stage bound is n to r h = operand_stage bound is n h.operand r h.bad

pub faulty_stage : (bound : ℕ) (is : List PlainInst) (n : ℕ) (r : Rule) → IsFaulty bound is n r → stage_of r ≡ of_ids
faulty_stage bound is n _ (IsFaulty.result_out_of_range x d o) = refl
faulty_stage bound is n _ (IsFaulty.defined_again m x d l e) = refl
faulty_stage bound is n _ (IsFaulty.by_use to r h) = has_stage bound is n to r h
faulty_stage bound is n _ (IsFaulty.by_operand to r h) = has_operand_stage bound is n to r h

-- the operands that are looked at
pub seen_at : (is : List PlainInst) (n k : ℕ) (os : List Operand) (o : Operand)
    (a : AreSeen is n (map plain_operand os)) → slice_get os k ≡ Some o
    → slice_get (seen a.inst) k ≡ Some (plain_operand o)
seen_at is n k os o a l =
    let g : slice_get (map plain_operand os) k ≡ Some (plain_operand o) = slice_get-map plain_operand os k
    ∙ ap (option_map plain_operand) l in
    rw a.same at g

no_use_yet : (is : List PlainInst) (n x : ℕ) → ¬ (IsUsedBefore is n 0 x)
no_use_yet is n x u = let b = u.below in absurd (omega arith)

pub none_yet : (bound : ℕ) (is : List PlainInst) (n : ℕ) (q : Rule) → ¬ (HasBadUse bound is n 0 q)
none_yet bound is n q h = no_use_yet is n h.id h.used

pub used_later : (is : List PlainInst) (n k x : ℕ) → IsUsedBefore is n k x → IsUsedBefore is n (k + 1) x
used_later is n k x u = let b = u.below in
    record {
      inst = u.inst;
      there = u.there;
      place = u.place;
      below = omega arith;
      operand = u.operand;
      operand_at = u.operand_at;
      used = u.used;
    }

pub bad_later : (bound : ℕ) (is : List PlainInst) (n k : ℕ) (q : Rule) → HasBadUse bound is n k q
    → HasBadUse bound is n (k + 1) q
bad_later bound is n k q h = record { id = h.id; used = used_later is n k h.id h.used; bad = h.bad }

pub bad_at : (bound : ℕ) (is : List PlainInst) (n k to x : ℕ) (os : List Operand) (o : Operand) (q : Rule)
    → AreSeen is n (map plain_operand os) → slice_get os k ≡ Some o → k < to → seen_id (plain_operand o) ≡ Some x
    → IsBadUse bound is n x q → HasBadUse bound is n to q
bad_at bound is n k to x os o q a l h u b = record {
  id = x;
  used = record {
    inst = a.inst;
    there = a.there;
    place = k;
    below = h;
    operand = plain_operand o;
    operand_at = seen_at is n k os o a l;
    used = u;
  };
  bad = b;
}

pub bad_here : (bound : ℕ) (is : List PlainInst) (n k x : ℕ) (os : List Operand) (o : Operand) (q : Rule)
    → AreSeen is n (map plain_operand os) → slice_get os k ≡ Some o → seen_id (plain_operand o) ≡ Some x
    → IsBadUse bound is n x q → HasBadUse bound is n (k + 1) q
bad_here bound is n k x os o q a l u b = record {
  id = x;
  used = record {
    inst = a.inst;
    there = a.there;
    place = k;
    below = omega arith;
    operand = plain_operand o;
    operand_at = seen_at is n k os o a l;
    used = u;
  };
  bad = b;
}

-- what a use before operand k + 1 is
data Split (bound : ℕ) (is : List PlainInst) (n k : ℕ) (o : Plain) (q : Rule) : Type 0 where
  before : HasBadUse bound is n k q → Split bound is n k o q
  here : (x : ℕ) → seen_id o ≡ Some x → IsBadUse bound is n x q → Split bound is n k o q

here_by : (i j : PlainInst) (k l x : ℕ) (o p : Plain) → i ≡ j → l ≡ k → slice_get (seen i) k ≡ Some o
    → slice_get (seen j) l ≡ Some p → seen_id p ≡ Some x → seen_id o ≡ Some x
here_by i j k l x o p e f g h u =
    let g' : slice_get (seen j) l ≡ Some o = rw (← e, f) g in
    let s : p ≡ o = cc in
    rw (← s) u

split : (bound : ℕ) (is : List PlainInst) (n k : ℕ) (os : List Operand) (o : Operand) (q : Rule)
    → AreSeen is n (map plain_operand os) → slice_get os k ≡ Some o → HasBadUse bound is n (k + 1) q
    → Split bound is n k (plain_operand o) q
split bound is n k os o q a l h =
    let u = h.used in
    let b = u.below in
    elim (below_or u.place k (omega arith)) [
      | inl m ↦ Split.before (record {
        id = h.id;
        used = record {
          inst = u.inst;
          there = u.there;
          place = u.place;
          below = m;
          operand = u.operand;
          operand_at = u.operand_at;
          used = u.used;
        };
        bad = h.bad;
      })
      | inr f ↦ Split.here h.id (here_by a.inst u.inst k u.place h.id (plain_operand o) u.operand
          (same_inst is n a.inst u.inst a.there u.there) f (seen_at is n k os o a l) u.operand_at u.used) h.bad
    ]

-- An operand that is no use.
least_same : (bound : ℕ) (is : List PlainInst) (n k : ℕ) (o : Option Rule)
    → ((q : Rule) → HasBadUse bound is n (k + 1) q → HasBadUse bound is n k q) → IsLeast (HasBadUse bound is n k) o
    → IsLeast (HasBadUse bound is n (k + 1)) o
least_same bound is n k None f h = λ q b. h q (f q b)
least_same bound is n k (Some r) f h = (bad_later bound is n k r h.0, λ q b. h.1 q (f q b))

no_use_here : (bound : ℕ) (is : List PlainInst) (n k : ℕ) (o : Plain) (q : Rule) → seen_id o ≡ None
    → Split bound is n k o q → HasBadUse bound is n k q
no_use_here bound is n k o q e (Split.before h) = h
no_use_here bound is n k o q e (Split.here x u b) = cc

sound_here : (bound : ℕ) (is : List PlainInst) (n k x : ℕ) (o : Plain) (q : Rule) → seen_id o ≡ Some x
    → ((p : Rule) → ¬ (IsBadUse bound is n x p)) → Split bound is n k o q → HasBadUse bound is n k q
sound_here bound is n k x o q e f (Split.before h) = h
sound_here bound is n k x o q e f (Split.here y u b) = let s : y ≡ x = cc in
    let b' : IsBadUse bound is n x q = rw (← s) b in absurd (f q b')

pub least_no_use : (bound : ℕ) (is : List PlainInst) (n k : ℕ) (os : List Operand) (o : Operand) (least : Option Rule)
    → AreSeen is n (map plain_operand os) → slice_get os k ≡ Some o → seen_id (plain_operand o) ≡ None
    → IsLeast (HasBadUse bound is n k) least → IsLeast (HasBadUse bound is n (k + 1)) least
least_no_use bound is n k os o least a l u h =
    least_same bound is n k least (λ q b. no_use_here bound is n k (plain_operand o) q u
    (split bound is n k os o q a l b)) h

pub least_sound : (bound : ℕ) (is : List PlainInst) (n k x : ℕ) (os : List Operand) (o : Operand) (least : Option Rule)
    → AreSeen is n (map plain_operand os) → slice_get os k ≡ Some o → seen_id (plain_operand o) ≡ Some x
    → ((p : Rule) → ¬ (IsBadUse bound is n x p)) → IsLeast (HasBadUse bound is n k) least
    → IsLeast (HasBadUse bound is n (k + 1)) least
least_sound bound is n k x os o least a l u f h =
    least_same bound is n k least (λ q b. sound_here bound is n k x (plain_operand o) q u f
    (split bound is n k os o q a l b)) h

-- An operand whose use breaks a rule.
bad_either : (bound : ℕ) (is : List PlainInst) (n k : ℕ) (one : Option Rule) (r : Rule)
    → IsLeast (HasBadUse bound is n k) one → one ≡ Some r → HasBadUse bound is n k r
bad_either bound is n k None r h e = cc
bad_either bound is n k (Some s) r h e = let q : s ≡ r = cc in let b = h.0 in rw q at b

least_either : (bound : ℕ) (is : List PlainInst) (n k : ℕ) (one : Option Rule) (r q : Rule)
    → IsLeast (HasBadUse bound is n k) one → ((p : Rule) → one ≡ Some p → rank_of r ≤ rank_of p)
    → HasBadUse bound is n k q → rank_of r ≤ rank_of q
least_either bound is n k None r q h f b = absurd (h q b)
least_either bound is n k (Some s) r q h f b = let x = f s refl in let y = h.1 q b in omega arith

pub one_stage : (bound : ℕ) (is : List PlainInst) (n k : ℕ) (one : Option Rule) (r : Rule)
    → IsLeast (HasBadUse bound is n k) one → one ≡ Some r → stage_of r ≡ of_ids
one_stage bound is n k one r h e = has_stage bound is n k r (bad_either bound is n k one r h e)

least_by : (bound : ℕ) (is : List PlainInst) (n k x : ℕ) (o : Plain) (one : Option Rule) (other r q : Rule)
    → IsLeast (HasBadUse bound is n k) one → seen_id o ≡ Some x → IsLeast (IsBadUse bound is n x) (Some other)
    → IsEarlier one other r → Split bound is n k o q → rank_of r ≤ rank_of q
least_by bound is n k x o one other r q h u b e (Split.before g) = least_either bound is n k one r q h e.first g
least_by bound is n k x o one other r q h u b e (Split.here y w g) =
    let s : y ≡ x = cc in
    let g' : IsBadUse bound is n x q = rw (← s) g in
    let l = b.1 q g' in
    let m = e.last in
    omega arith

bad_moved : (bound : ℕ) (is : List PlainInst) (n x : ℕ) (other r : Rule) → r ≡ other → IsBadUse bound is n x other
    → IsBadUse bound is n x r
bad_moved bound is n x other r e b = rw e b

pub least_earlier : (bound : ℕ) (is : List PlainInst) (n k x : ℕ) (os : List Operand) (o : Operand) (one : Option Rule)
    (other r : Rule) → AreSeen is n (map plain_operand os) → slice_get os k ≡ Some o
    → seen_id (plain_operand o) ≡ Some x → IsLeast (IsBadUse bound is n x) (Some other) → IsEarlier one other r
    → IsLeast (HasBadUse bound is n k) one → IsLeast (HasBadUse bound is n (k + 1)) (Some r)
least_earlier bound is n k x os o one other r a l u b f h = (
  elim f.either [
    | inl g ↦ bad_later bound is n k r (bad_either bound is n k one r h g)
    | inr g ↦ bad_here bound is n k x os o r a l u (bad_moved bound is n x other r g b.0)
  ],
  λ q g. least_by bound is n k x (plain_operand o) one other r q h u b f (split bound is n k os o q a l g),
)

-- no use out of range, one operand on
no_range_by : (bound : ℕ) (is : List PlainInst) (n k x : ℕ) (o : Plain) → seen_id o ≡ Some x
    → (IsOutOfRange bound x → ⊥) → ¬ (HasBadUse bound is n k D1) → ¬ (Split bound is n k o D1)
no_range_by bound is n k x o u h f (Split.before g) = f g
no_range_by bound is n k x o u h f (Split.here y w b) = let s : y ≡ x = cc in
    h (range_of bound is n x D1 refl (bad_id bound is n y x D1 s b)) where
      bad_id : (bound : ℕ) (is : List PlainInst) (n y x : ℕ) (q : Rule) → y ≡ x → IsBadUse bound is n y q
          → IsBadUse bound is n x q
      bad_id bound is n y x q e b = rw (← e) b

      range_of : (bound : ℕ) (is : List PlainInst) (n x : ℕ) (q : Rule) → q ≡ D1 → IsBadUse bound is n x q
          → IsOutOfRange bound x
      range_of bound is n x _ e (IsBadUse.out_of_range g) = g
      range_of bound is n x _ e (IsBadUse.undefined g) = cc
      range_of bound is n x _ e (IsBadUse.not_in_order g k) = cc
      range_of bound is n x _ e (IsBadUse.not_in_scope g k l) = cc

pub no_range : (bound : ℕ) (is : List PlainInst) (n k x : ℕ) (os : List Operand) (o : Operand)
    → AreSeen is n (map plain_operand os) → slice_get os k ≡ Some o → seen_id (plain_operand o) ≡ Some x
    → (IsOutOfRange bound x → ⊥)
    → ¬ (HasBadUse bound is n k D1) → ¬ (HasBadUse bound is n (k + 1) D1)
no_range bound is n k x os o a l u h f b =
    no_range_by bound is n k x (plain_operand o) u h f (split bound is n k os o D1 a l b)

pub no_range_no_use : (bound : ℕ) (is : List PlainInst) (n k : ℕ) (os : List Operand) (o : Operand)
    → AreSeen is n (map plain_operand os) → slice_get os k ≡ Some o → seen_id (plain_operand o) ≡ None
    → ¬ (HasBadUse bound is n k D1) → ¬ (HasBadUse bound is n (k + 1) D1)
no_range_no_use bound is n k os o a l u f b =
    f (no_use_here bound is n k (plain_operand o) D1 u (split bound is n k os o D1 a l b))

within_by : (os : List Plain) (i j : PlainInst) (k : ℕ) (o : Plain) → os ≡ seen i → i ≡ j
    → slice_get (seen j) k ≡ Some o → k < length os
within_by os i j k o e f g = let g' : slice_get os k ≡ Some o = rw (e, f) g in slice_get_within os k o g'

-- all operands that are looked at are before the end of their list
pub used_all : (is : List PlainInst) (n to x : ℕ) (os : List Plain) → AreSeen is n os → IsUsedBefore is n to x
    → IsUsedBefore is n (length os) x
used_all is n to x os a u = record {
  inst = u.inst;
  there = u.there;
  place = u.place;
  below = within_by os a.inst u.inst u.place u.operand a.same
      (same_inst is n a.inst u.inst a.there u.there) u.operand_at;
  operand = u.operand;
  operand_at = u.operand_at;
  used = u.used;
}

pub has_all : (bound : ℕ) (is : List PlainInst) (n to : ℕ) (os : List Plain) (q : Rule) → AreSeen is n os
    → HasBadUse bound is n to q → HasBadUse bound is n (length os) q
has_all bound is n to os q a h = record { id = h.id; used = used_all is n to h.id os a h.used; bad = h.bad }

pub has_moved : (bound : ℕ) (is : List PlainInst) (n k l : ℕ) (q : Rule) → k ≡ l → HasBadUse bound is n k q
    → HasBadUse bound is n l q
has_moved bound is n k l q e h = rw (← e) h

pub least_moved : (bound : ℕ) (is : List PlainInst) (n k l : ℕ) (o : Option Rule) → k ≡ l
    → IsLeast (HasBadUse bound is n k) o → IsLeast (HasBadUse bound is n l) o
least_moved bound is n k l o e h = rw (← e) h

pub one_stages : (bound : ℕ) (is : List PlainInst) (n k : ℕ) (one : Option Rule) → IsLeast (HasBadUse bound is n k) one
    → IfSome one (λ r. stage_of r ≡ of_ids)
one_stages bound is n k None h = tt
one_stages bound is n k (Some r) h = has_stage bound is n k r h.0

pub least_stage : (bound : ℕ) (is : List PlainInst) (n x : ℕ) (r : Rule) → IsLeast (IsBadUse bound is n x) (Some r)
    → stage_of r ≡ of_ids
least_stage bound is n x r h = bad_stage bound is n x r h.0

pub least_at : (bound : ℕ) (is : List PlainInst) (m n k l : ℕ) (o p : Option Rule) → m ≡ n → k ≡ l → o ≡ p
    → IsLeast (HasBadUse bound is m k) o → IsLeast (HasBadUse bound is n l) p
least_at bound is m n k l o p e f g h = rw (← e, ← f, ← g) h
