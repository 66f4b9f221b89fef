-- The worked examples.
use Rattle.std.proofs.Common.{◌≡◌, ◌∙◌, ◌≤◌, ◌&&◌, ◌||◌, inl, inr, ℕ, zero, suc, Bool, true, false, refl, sym, ap}
use Rattle.std.proofs.Common.{subst, arith, List, [], ◌∷◌, Option, Some, None, IsTrue}
use Rattle.std.specs.Prelude.{slice_get, IsSomeAnd}
use Rattle.spv_module.specs.declared.opcode.TheConstants as opcode
use Rattle.spv_module.specs.Operand.{PlainInst}
use Rattle.spv_module.specs.Width.{definition_of}
use Rattle.spv_declarations.specs.Given.{Gives, HasIdBehind, given_by, group_by}
use Rattle.spv_declarations.specs.inner.Said.{HasAt, HasMemberAt}
use Rattle.spv_declarations.specs.Decorated.{Has, HasBy, HasOnMember, IsMisplaced, IsSecond}
use Rattle.spv_declarations.specs.Entry.{IsRepeated}
use Rattle.spv_declarations.specs.Example.{decorated, decorate, entries}
use Rattle.spv_declarations.specs.Table.{Line, IsOnSome, StandsOn, is_among, is_listed, lines}
use Rattle.spv_declarations.proofs.Gathered.{one_inst}
use Rattle.spv_declarations.proofs.Stated.{has_at, member_has_at}

pub repeated : IsRepeated entries 1
repeated = record {
  inst = _;
  there = refl;
  model = _;
  name = _;
  named = refl;
  before = 0;
  lower = omega arith;
  other = _;
  other_there = refl;
  same = refl;
}

pub own_restrict : HasBy decorated 3 19 0
own_restrict = Has.own _ refl refl (λ g. absurd (omega (arith, g)))

pub group_aliased : HasBy decorated 3 20 3
group_aliased = Has.by_group _ _ 2 1 refl (refl, inl refl) refl refl

pub member_built_in : HasOnMember decorated 4 1 11 4
member_built_in = HasOnMember.own _ refl refl

-- an instruction that neither decorates the id so nor names a group
not_by : (x d n : ℕ) (i : PlainInst) → slice_get decorated n ≡ Some i → (given_by i ≡ Some (x, d) → ⊥)
    → ((g : ℕ) → group_by opcode.GROUP_DECORATE i ≡ Some g → ⊥) → HasBy decorated x d n → ⊥
not_by x d n i at p q (Has.own j there s group) =
    p (subst (λ (k : PlainInst). given_by k ≡ Some (x, d)) (one_inst decorated n j i there at) s)
not_by x d n i at p q (Has.by_group j k g m there t other s) =
    q g (subst (λ (k : PlainInst). group_by opcode.GROUP_DECORATE k ≡ Some g) (one_inst decorated n j i there at) t.0)

one_pair : (o : Option (ℕ × ℕ)) (a b x d : ℕ) → o ≡ Some (a, b) → o ≡ Some (x, d) → (a ≡ x) × (b ≡ d)
one_pair o a b x d p q =
    let e : Some (a, b) ≡ Some (x, d) = sym p ∙ q in
    let r : (a, b) ≡ (x, d) = cc in
    (ap (λ (z : ℕ × ℕ). z.0) r, ap (λ (z : ℕ × ℕ). z.1) r)

aliased_least : (m : ℕ) → HasBy decorated 3 20 m → 3 ≤ m
aliased_least zero h = absurd (not_by 3 20 0 _ refl
    (λ e. let p = (one_pair (Some (3, 19)) 3 19 3 20 refl e).1 in omega (arith, p))
    (λ g e. let no : None ≡ Some g = e in cc) h)
aliased_least (suc zero) h = absurd (not_by 3 20 1 _ refl
    (λ e. let p = (one_pair (Some (2, 20)) 2 20 3 20 refl e).0 in omega (arith, p))
    (λ g e. let no : None ≡ Some g = e in cc) h)
aliased_least (suc (suc zero)) h = absurd (not_by 3 20 2 _ refl
    (λ e. let no : None ≡ Some (3, 20) = e in cc)
    (λ g e. let no : None ≡ Some g = e in cc) h)
aliased_least (suc (suc (suc m))) h = omega arith

pub second : IsSecond decorated 3
second = record {
  id = 3;
  restricted = 0;
  aliased = 3;
  one = record { has = own_restrict; least = λ m h. omega arith };
  other = record { has = group_aliased; least = aliased_least };
  greater = (omega arith, omega arith, inr refl);
}

-- an opcode that is on no line of the decoration
abbrev is_opcode_on : List Line → ℕ → ℕ → Bool
is_opcode_on [] d o = false
is_opcode_on (l ∷ ls) d o = (is_among l.0.now d && is_among l.1.now o) || is_opcode_on ls d o

both_true : (a b c : Bool) → a ≡ true → b ≡ true → ((a && b) || c) ≡ true
both_true true true c p q = refl
both_true true false c p q = let no : false ≡ true = q in absurd (cc)
both_true false b c p q = let no : false ≡ true = p in absurd (cc)

or_right : (a b : Bool) → b ≡ true → (a || b) ≡ true
or_right true b h = refl
or_right false b h = h

on_opcode : (is : List PlainInst) (ls : List Line) (d x : ℕ) (i : PlainInst) → definition_of is x ≡ Some i
    → IsOnSome is ls d x → is_opcode_on ls d i.opcode ≡ true
on_opcode is [] d x i e h = absurd h
on_opcode is (l ∷ ls) d x i e (inl h) =
    both_true (is_among l.0.now d) (is_among l.1.now i.opcode) (is_opcode_on ls d i.opcode) h.0
    (subst (λ (o : Option PlainInst). IsSomeAnd o (λ (j : PlainInst). IsTrue (is_among l.1.now j.opcode))) e h.1.0)
on_opcode is (l ∷ ls) d x i e (inr h) =
    or_right (is_among l.0.now d && is_among l.1.now i.opcode) (is_opcode_on ls d i.opcode)
    (on_opcode is ls d x i e h)

pub void_not : (d : ℕ) → is_listed lines d ≡ true → is_opcode_on lines d opcode.TYPE_VOID ≡ false
    → ¬ (StandsOn decorated d 1)
void_not d l f s =
    let no : false ≡ true = sym f ∙ on_opcode decorated lines d 1 _ refl (s l) in cc

pub restrict_stands : StandsOn decorated 19 3
unfolding lines
restrict_stands = λ t. inr (inr (inr (inr (inr (inl (refl, (refl, tt)))))))

pub well_placed : ¬ (IsMisplaced decorated 0)
well_placed (IsMisplaced.with_id i at o h) =
    absurd (subst (λ (k : PlainInst). HasIdBehind k.operands) (one_inst decorated 0 i (decorate 3 19) at refl) h).1
well_placed (IsMisplaced.on_id x d h m) = placed x d (has_at decorated (Gives d) x 0 (decorate 3 19) refl h) m
  where
    placed : (x d : ℕ) → HasAt decorated (Gives d) x (decorate 3 19) → ¬ (StandsOn decorated d x) → ⊥
    placed x d (HasAt.own e g) m =
        let p = one_pair (Some (3, 19)) 3 19 x d refl e in
        m (subst (λ (k : ℕ). StandsOn decorated k x) p.1
        (subst (λ (k : ℕ). StandsOn decorated 19 k) p.0 restrict_stands))
    placed x d (HasAt.by_group g t s) m = let no : None ≡ Some g = t.0 in cc
well_placed (IsMisplaced.on_member t k d h m) = placed t k d (member_has_at decorated t k d 0 (decorate 3 19) refl h)
  where
    placed : (t k d : ℕ) → HasMemberAt decorated t k d (decorate 3 19) → ⊥
    placed t k d (HasMemberAt.own e) = let no : None ≡ Some (t, k, d) = e in cc
    placed t k d (HasMemberAt.by_group g p s) = let no : None ≡ Some g = p.0 in cc
