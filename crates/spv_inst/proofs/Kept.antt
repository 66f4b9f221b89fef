-- What is kept of the definitions, after one instruction more.
use Rattle.std.proofs.Common.{◌≡◌, ◌++◌, ◌∷◌, [], ◌∙◌, sym, ℕ, zero, suc, length, get_or, set, ◌<◌, ◌≤◌, List, Option}
use Rattle.std.proofs.Common.{Some, None, Bool, true, false, cond, refl, ap, arith, inl, inr}
use Rattle.std.proofs.lemmas.Bool.Decides.{eqb_tells, nat_tests}
use Rattle.std.proofs.lemmas.List.{get_or_past}
use Rattle.std.specs.Prelude.{Result, Ok, Err, OnOk, option_map, nat_eq, if◌then◌else◌}
use Rattle.spv_module.specs.declared.opcode.TheConstants.{TYPE_FLOAT}
use Rattle.spv_inst.specs.declared.definitions.Definition.{Definition}
use Rattle.spv_inst.specs.declared.definitions.Definitions.{Definitions}
use Rattle.spv_module.specs.Operand.{PlainInst, result_in, type_in}
use Rattle.spv_module.specs.Width.{definition_of, declared_width, has_result, or_else}
use Rattle.spv_ranks.specs.Rank.{rank_in, at_rank}
use Rattle.spv_ranks.proofs.Ranking.{at_rank-set}
use Rattle.spv_inst.specs.inner.Known.{Knows, summary, kept, or_far}

or_none : (a : Option PlainInst) → or_else a None ≡ a
or_none None = refl
or_none (Some i) = refl

or_assoc : (a b c : Option PlainInst) → or_else (or_else a b) c ≡ or_else a (or_else b c)
or_assoc None b c = refl
or_assoc (Some i) b c = refl

-- the instruction, if it defines the id
abbrev defining : PlainInst → ℕ → Option PlainInst
defining i x = if has_result (result_in i.operands) x then Some i else None

definition_of_more : (is : List PlainInst) (i : PlainInst) (x : ℕ)
    → definition_of (is ++ i ∷ []) x ≡ or_else (defining i x) (definition_of is x)
definition_of_more [] i x = sym (or_none (defining i x))
definition_of_more (j ∷ is) i x =
    ap (λ o. or_else o (defining j x)) (definition_of_more is i x)
    ∙ or_assoc (defining i x) (definition_of is x) (defining j x)

-- an instruction with no result
pub same_kept : (d : Definitions) (before : List PlainInst) (i : PlainInst) → result_in i.operands ≡ None
    → Knows d before → Knows d (before ++ i ∷ [])
same_kept d before i e k = record {
  latest = λ x. rw (definition_of_more before i x, e) (k.latest x);
}

summary_more : (b : Bool) (i : PlainInst) (o : Option PlainInst)
    → option_map summary (or_else (if b then Some i else None) o) ≡ cond b (Some (summary i)) (option_map summary o)
summary_more true i o = refl
summary_more false i o = refl

-- an instruction with a result
pub more_kept : (d e : Definitions) (before : List PlainInst) (i : PlainInst) (r : ℕ) (n : Definition)
    → result_in i.operands ≡ Some r → n ≡ summary i
    → ((x : ℕ) → kept e x ≡ cond (nat_eq r x) (Some n) (kept d x))
    → Knows d before → Knows e (before ++ i ∷ [])
more_kept d e before i r n f g u k = record {
  latest = λ x. rw (
    definition_of_more before i x,
    f,
    summary_more (nat_eq r x) i (definition_of before x),
    ← g,
    ← k.latest x,
  ) (u x);
}

-- what is kept of an instruction of an opcode with a type and a width is its summary
pub summary_is : (i : PlainInst) (opcode : ℕ) (t w : Option ℕ) → i.opcode ≡ opcode → type_in i.operands ≡ t
    → declared_width i ≡ w
    → record { type_id = t; is_float = nat_eq opcode TYPE_FLOAT; width = w } ≡ summary i
summary_is i opcode t w e f g = rw (← e, ← f, ← g) refl

-- what follows from a call's answer
pub on_ok : {T E : Type 0} (r : Result T E) (P Q : Type 0) → (P → Q) → OnOk r P → OnOk r Q
on_ok (Ok _) P Q f h = f h
on_ok (Err _) P Q f h = tt

same_tests : (a b : ℕ) → nat_eq (suc a) (suc b) ≡ nat_eq a b
same_tests a b =
    elim (eqb_tells a b) [
      | inl p ↦ let e = p.1 in let f : nat_eq (suc a) (suc b) ≡ true = grind (arith, nat_tests) in f ∙ sym p.0
      | inr p ↦ let e = p.1 in let f : nat_eq (suc a) (suc b) ≡ false = grind (arith, nat_tests) in f ∙ sym p.0
    ]

-- what stands at the places of a list with one place more
pub kept_pushed : (near : List (Option Definition)) (d : Definition) (x : ℕ)
    → get_or (near ++ (Some d ∷ [])) x None ≡ cond (nat_eq (length near) x) (Some d) (get_or near x None)
kept_pushed [] d zero = refl
kept_pushed [] d (suc x) = let e : nat_eq 0 (suc x) ≡ false = grind (arith, nat_tests) in
    ap (λ b. cond b (Some d) None) (sym e)
kept_pushed (n ∷ near) d zero = let e : nat_eq (suc (length near)) 0 ≡ false = grind (arith, nat_tests) in
    ap (λ b. cond b (Some d) n) (sym e)
kept_pushed (n ∷ near) d (suc x) =
    kept_pushed near d x ∙ ap (λ b. cond b (Some d) (get_or near x None)) (sym (same_tests (length near) x))

-- a definition at the rank of an id past the list
pub ranked_put : (near ranked : List (Option Definition)) (ids : List ℕ) (id k x : ℕ) (d : Definition)
    (far : Option Definition) → length near ≤ id → rank_in ids id ≡ Some k → k < length ranked
    → or_far (get_or near x None) (or_far (at_rank None (set ranked k (Some d)) ids x) far) ≡ cond (nat_eq id x)
    (Some d) (or_far (get_or near x None) (or_far (at_rank None ranked ids x) far))
ranked_put near ranked ids id k x d far past e lt =
    rw (at_rank-set None ranked ids id x k (Some d) e lt) (by (nat_eq id x) refl) where
      by : (b : Bool) → nat_eq id x ≡ b
          → or_far (get_or near x None) (or_far (if b then Some d else at_rank None ranked ids x) far) ≡ cond b (Some d)
          (or_far (get_or near x None) (or_far (at_rank None ranked ids x) far))
      by true t = let same : id ≡ x = grind (arith, nat_tests, t) in
          let n : get_or near x None ≡ None = get_or_past near x None (omega arith) in rw n refl
      by false t = refl

-- a definition in the map, of an id past the list without a place at a rank
pub far_put : (near : List (Option Definition)) (id x : ℕ) (d : Definition) (ranked before after : Option Definition)
    → length near ≤ id → (id ≡ x → ranked ≡ None) → after ≡ cond (nat_eq id x) (Some d) before
    → or_far (get_or near x None) (or_far ranked after) ≡ cond (nat_eq id x) (Some d)
    (or_far (get_or near x None) (or_far ranked before))
far_put near id x d ranked before after past none e = by (nat_eq id x) refl where
  by : (b : Bool) → nat_eq id x ≡ b
      → or_far (get_or near x None) (or_far ranked after) ≡ cond b (Some d)
      (or_far (get_or near x None) (or_far ranked before))
  by true t =
      let same : id ≡ x = grind (arith, nat_tests, t) in
      let n : get_or near x None ≡ None = get_or_past near x None (omega arith) in
      let z : ranked ≡ None = none same in
      let f : after ≡ Some d = rw (e, t) refl in rw (n, z, f) refl
  by false t = let f : after ≡ before = rw (e, t) refl in rw f refl
