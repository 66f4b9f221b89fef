-- What is asked for the operands of one instruction.
use Rattle.std.proofs.Common.{◌≡◌, ◌<◌, ◌≤◌, ◌+◌, ◌++◌, ◌∙◌, ℕ, List, [], ◌∷◌, Option, Some, None, refl, sym, ap, subst}
use Rattle.std.proofs.Common.{inl, inr, length, arith}
use Rattle.std.specs.Prelude.{All, Contains, MatchOption, slice_get, slice_index_or}
use Rattle.std.proofs.lemmas.Bool.{cases_lt}
use Rattle.std.proofs.lemmas.Option.{slice_get_within, slice_get_read, get_or_from_slice_get}
use Rattle.std.proofs.lemmas.List.Elements.{All-contains, All-contains_itself, Contains-append_left, Contains-push}
use Rattle.std.proofs.lemmas.List.Elements.{Contains-push_cases}
use Rattle.spv_table.specs.Table.{Table}
use Rattle.spv_module.specs.Operand.{PlainInst}
use Rattle.spv_layout.specs.declared.form.Role.TheVariants.{Value}
use Rattle.spv_layout.specs.Place.{IsOfFunction}
use Rattle.spv_layout.proofs.Places.{function_same}
use Rattle.spv_graphs.specs.declared.queries.Query.{Query}
use Rattle.spv_graphs.specs.declared.graph.Graph.{Graph}
use Rattle.spv_graphs.specs.Graph.{block_count}
use Rattle.spv_graphs.specs.Path.{IsAvailable, IsUnavailable}
use Rattle.spv_graphs.specs.First.{AreOfBlocks, IsFirstUnavailable}
use Rattle.spv_flow.specs.branches.Target.{is_phi, IsOp}
use Rattle.spv_flow.proofs.lemmas.branches.Labelled.{use_in, use_within}
use Rattle.spv_flow.specs.declared.walks.code.Code.{Code}
use Rattle.spv_flow.specs.declared.walks.edges.Blocks.{Blocks}
use Rattle.spv_flow.specs.walks.inner.Code.{insts_of, IsCode}
use Rattle.spv_flow.specs.walks.inner.Leading.{AreBlocks}
use Rattle.spv_flow.specs.walks.inner.Divided.{IsIn, IsGraphOf}
use Rattle.spv_flow.specs.walks.inner.Due.{IsUseQuery, IsPairQuery, IsQuery}
use Rattle.spv_flow.proofs.lemmas.walks.Asking.{one_use, one_pair}
use Rattle.spv_flow.proofs.lemmas.walks.Walking.{one_block}
use Rattle.spv_flow.proofs.lemmas.walks.Deciding.{walk_within, not_unavailable}
use Rattle.spv_flow_evidence.specs.declared.walks.queries.Taking.{Taking}
use Rattle.spv_flow_evidence.specs.declared.walks.queries.Taking.TheVariants.{Uses, Pairs}
use Rattle.spv_flow_evidence.specs.walks.inner.Asked.{IsQueryOf, IsQueryFound, MissesValue, numbered, AreAsked}
use Rattle.spv_flow_evidence.specs.walks.inner.Asked.{IsUnavailableQuery}

-- what there is of an operand, by how the instruction takes values

pub by_uses : (G : Table) (is : List PlainInst) (starts : List ℕ) (t : Taking) (b n k : ℕ) (o : Option Query) → t ≡ Uses
    → MatchOption o ((a : Query) → ¬ (IsUseQuery G is starts b n k a)) (λ a. IsUseQuery G is starts b n k a)
    → IsQueryFound G is starts t b n k o
by_uses G is starts t b n k o e h = subst (λ (s : Taking). IsQueryFound G is starts s b n k o) (sym e) h

pub by_pairs : (G : Table) (is : List PlainInst) (starts : List ℕ) (t : Taking) (b n k : ℕ) (o : Option Query)
    → t ≡ Pairs
    → MatchOption o ((a : Query) → ¬ (IsPairQuery G is starts n k a)) (λ a. IsPairQuery G is starts n k a)
    → IsQueryFound G is starts t b n k o
by_pairs G is starts t b n k o e h = subst (λ (s : Taking). IsQueryFound G is starts s b n k o) (sym e) h

-- for an operand one thing is asked at most
pub one_query : (G : Table) (c : Code) (b : Blocks) (t : Taking) (block n k : ℕ) (s a : Query) → IsCode G c
    → AreBlocks (insts_of c) b
    → IsQueryOf G (insts_of c) b.starts.now t block n k s → IsQueryOf G (insts_of c) b.starts.now t block n k a → s ≡ a
one_query G c b Uses block n k s a is are h g = one_use G c b.starts.now block n k s a is h g
one_query G c b Pairs block n k s a is are h g = one_pair G c b n k s a is are h g

-- the step of a query is its instruction
pub step_of : (G : Table) (is : List PlainInst) (starts : List ℕ) (t : Taking) (b n k : ℕ) (a : Query)
    → IsQueryOf G is starts t b n k a → a.step ≡ n
step_of G is starts Uses b n k a h = h.step
step_of G is starts Pairs b n k a h = h.step

pub as_asked : (a : Query) (n : ℕ) → a.step ≡ n → a ≡ numbered a n
as_asked a n e = ap (λ (k : ℕ). let t : Query = record { block = a.block; value = a.value; step = k } in t) e

-- an operand of which something is asked is there
pub operand_within : (G : Table) (is : List PlainInst) (starts : List ℕ) (t : Taking) (b n k : ℕ) (a : Query)
    (i : PlainInst)
    → slice_get is n ≡ Some i → IsQueryOf G is starts t b n k a → k < length i.operands
operand_within G is starts Uses b n k a i there h =
    use_within G i k h.id h.role (use_in G is n k h.id h.role i there h.used)
operand_within G is starts Pairs b n k a i there h =
    use_within G i k h.value Value (use_in G is n k h.value Value i there h.paired)

-- Operand by operand.

none_there : (a : Query) → ¬ (Contains [] a)
none_there a (k, lt, e) = absurd (omega (arith, lt))

pub asked_none : (G : Table) (is : List PlainInst) (starts : List ℕ) (t : Taking) (b n : ℕ)
    → AreAsked G is starts t b n 0 []
asked_none G is starts t b n = record {
  sound = λ a h. absurd (none_there a h);
  complete = λ k a lt h. absurd (omega (arith, lt));
}

pub asked_more : (G : Table) (c : Code) (b : Blocks) (t : Taking) (block n end : ℕ) (queries : List Query) (s : Query)
    → IsCode G c → AreBlocks (insts_of c) b
    → IsQueryOf G (insts_of c) b.starts.now t block n end s → AreAsked G (insts_of c) b.starts.now t block n end queries
    → AreAsked G (insts_of c) b.starts.now t block n (end + 1) (queries ++ numbered s end ∷ [])
asked_more G c b t block n end queries s is are h before =
    let P : Query → Type 0 = λ a. IsQueryOf G (insts_of c) b.starts.now t block n a.step (numbered a n) in
    record {
      sound = λ a k. elim (Contains-push_cases queries (numbered s end) a k) [
        | inl old ↦ before.sound a old
        | inr new ↦ subst P new (subst (λ (x : Query). IsQueryOf G (insts_of c) b.starts.now t block n end x)
            (as_asked s n (step_of G (insts_of c) b.starts.now t block n end s h)) h)
      ];
      complete = λ k a lt g. elim (cases_lt k end) [
        | inl less ↦ Contains-append_left queries (numbered s end ∷ []) (numbered a k) (before.complete k a less g)
        | inr more ↦ (
            let e : k ≡ end = omega (arith, lt, more) in
            let same : s ≡ a = one_query G c b t block n end s a is are h
            (subst (λ (j : ℕ). IsQueryOf G (insts_of c) b.starts.now t block n j a) e g) in
            let there : numbered s end ≡ numbered a k =
            ap (λ (x : Query). numbered x end) same ∙ ap (numbered a) (sym e) in
            subst (λ (x : Query). Contains (queries ++ numbered s end ∷ []) x) there
            (Contains-push queries (numbered s end)))
      ];
    }

pub asked_same : (G : Table) (is : List PlainInst) (starts : List ℕ) (t : Taking) (b n end : ℕ) (queries : List Query)
    → ((a : Query) → ¬ (IsQueryOf G is starts t b n end a)) → AreAsked G is starts t b n end queries
    → AreAsked G is starts t b n (end + 1) queries
asked_same G is starts t b n end queries none before = record {
  sound = before.sound;
  complete = λ k a lt g. elim (cases_lt k end) [
    | inl less ↦ before.complete k a less g
    | inr more ↦ (
        let e : k ≡ end = omega (arith, lt, more) in
        absurd (none a (subst (λ (j : ℕ). IsQueryOf G is starts t b n j a) e g)))
  ];
}

-- after the last operand there is no more
pub asked_all : (G : Table) (is : List PlainInst) (starts : List ℕ) (t : Taking) (b n end : ℕ) (queries : List Query)
    (i : PlainInst)
    → slice_get is n ≡ Some i → length i.operands ≤ end → AreAsked G is starts t b n end queries → (more : ℕ)
    → AreAsked G is starts t b n more queries
asked_all G is starts t b n end queries i there last all more = record {
  sound = all.sound;
  complete = λ k a lt g. (let w = operand_within G is starts t b n k a i there g in all.complete k a
      (omega (arith, w, last)) g);
}

-- the queries of a slice are those of its vector
pub asked_in : (G : Table) (is : List PlainInst) (starts : List ℕ) (t : Taking) (b n end : ℕ)
    (queries given : List Query)
    → given ≡ queries → AreAsked G is starts t b n end queries → AreAsked G is starts t b n end given
asked_in G is starts t b n end queries given e all =
    subst (λ (xs : List Query). AreAsked G is starts t b n end xs) (sym e) all

pub steps_in : (queries given : List Query) → given ≡ queries → All (λ (a : Query). a.step < 4294967295) queries
    → (a : Query) → Contains given a → a.step < 4294967295
steps_in queries given e all a h =
    All-contains (λ (x : Query). x.step < 4294967295) queries a all (subst (λ (xs : List Query). Contains xs a) e h)

-- Each is asked of a block.

block_within : (G : Table) (is : List PlainInst) (starts : List ℕ) (t : Taking) (b n k : ℕ) (a : Query)
    → b + 1 < length starts
    → IsQueryOf G is starts t b n k a → a.block + 1 < length starts
block_within G is starts Uses b n k a inside h = (let e = h.block in omega (arith, e, inside))
block_within G is starts Pairs b n k a inside h = h.inside

pub asked_blocks : (G : Table) (is : List PlainInst) (starts : List ℕ) (graph : Graph) (t : Taking) (b n end : ℕ)
    (queries : List Query) → length starts ≡ block_count graph + 1
    → b + 1 < length starts → AreAsked G is starts t b n end queries → AreOfBlocks graph queries
asked_blocks G is starts graph t b n end queries count inside all = λ k d lt. (
    let a = slice_index_or queries k d in
    let h = block_within G is starts t b n a.step (numbered a n) inside
    (all.sound a (All-contains_itself queries k d lt)) in
    omega (arith, h, count))

pub unavailable_block : (G : Table) (is : List PlainInst) (starts : List ℕ) (graph : Graph) (t : Taking) (b n : ℕ)
    (a : Query)
    → length starts ≡ block_count graph + 1
    → b + 1 < length starts → IsUnavailableQuery G is starts graph t b n a → a.block < block_count graph
unavailable_block G is starts graph t b n a count inside m =
    let h = block_within G is starts t b n a.step (numbered a n) inside m.asked in
    omega (arith, h, count)

-- Where all are available, no walk misses a value that the instruction takes.

there_at : (queries : List Query) (a : Query) → Contains queries a → (k : ℕ) × (slice_get queries k ≡ Some a)
there_at queries a (k, lt, e) = (k, slice_get_read queries (length queries) k a refl lt (sym e))

available : (G : Table) (is : List PlainInst) (starts : List ℕ) (graph : Graph) (t : Taking) (b n k : ℕ)
    (queries : List Query) (a : Query)
    → AreAsked G is starts t b n (k + 1) queries → IsFirstUnavailable graph queries None
    → IsQueryOf G is starts t b n k a
    → IsAvailable graph a.value a.block
available G is starts graph t b n k queries a all none h =
    let r = there_at queries (numbered a k) (all.complete k a (omega arith) h) in
    none r.0 (numbered a k) r.1

use_available : (G : Table) (c : Code) (f : ℕ) (starts : List ℕ) (graph : Graph) (b n : ℕ) (queries : List Query)
    → IsGraphOf G (insts_of c) f starts graph → IsIn starts b n
    → ¬ (IsOp (insts_of c) n is_phi) → ((end : ℕ) → AreAsked G (insts_of c) starts Uses b n end queries)
    → IsFirstUnavailable graph queries None
    → (a : Query) → a.step ≡ n → IsQuery G (insts_of c) starts a → IsAvailable graph a.value a.block
use_available G c f starts graph b n queries g i plain all none a step (d, (m, j, inl u)) =
    let s : m ≡ n = sym u.1.1.step ∙ step in
    let e : d ≡ b = one_block (insts_of c) f starts g.divided d b n (subst (λ (k : ℕ). IsIn starts d k) s j) i in
    let h = subst (λ (k : ℕ). IsUseQuery G (insts_of c) starts k n u.1.0 a) e
    (subst (λ (k : ℕ). IsUseQuery G (insts_of c) starts d k u.1.0 a) s u.1.1) in
    available G (insts_of c) starts graph Uses b n u.1.0 queries a (all (u.1.0 + 1)) none h
use_available G c f starts graph b n queries g i plain all none a step (d, (m, j, inr p)) =
    let s : m ≡ n = sym p.2.1.step ∙ step in
    absurd (plain (subst (λ (k : ℕ). IsOp (insts_of c) k is_phi) s p.0))

pair_available : (G : Table) (c : Code) (f : ℕ) (starts : List ℕ) (graph : Graph) (b n : ℕ) (queries : List Query)
    → IsGraphOf G (insts_of c) f starts graph → IsIn starts b n
    → IsOp (insts_of c) n is_phi → ((end : ℕ) → AreAsked G (insts_of c) starts Pairs b n end queries)
    → IsFirstUnavailable graph queries None
    → (a : Query) → a.step ≡ n → IsQuery G (insts_of c) starts a → IsAvailable graph a.value a.block
pair_available G c f starts graph b n queries g i phi all none a step (d, (m, j, inl u)) =
    let s : m ≡ n = sym u.1.1.step ∙ step in
    absurd (u.0 (subst (λ (k : ℕ). IsOp (insts_of c) k is_phi) (sym s) phi))
pair_available G c f starts graph b n queries g i phi all none a step (d, (m, j, inr p)) =
    let s : m ≡ n = sym p.2.1.step ∙ step in
    let h = subst (λ (k : ℕ). IsPairQuery G (insts_of c) starts k p.2.0 a) s p.2.1 in
    available G (insts_of c) starts graph Pairs b n p.2.0 queries a (all (p.2.0 + 1)) none h

-- the function of a walk to an instruction
pub walk_function : (G : Table) (is : List PlainInst) (t : Taking) (n : ℕ) → MissesValue G is t n
    → (f : ℕ) × IsOfFunction is n f
walk_function G is Uses n m = (m.function, walk_within G is m.function m.past n m.walk)
walk_function G is Pairs n m = (m.comes.function, walk_within G is m.comes.function m.comes.past n m.comes.walk)

pub some_unavailable : (G : Table) (c : Code) (f : ℕ) (starts : List ℕ) (graph : Graph) (t : Taking) (b n : ℕ)
    (queries : List Query) → IsCode G c → IsGraphOf G (insts_of c) f starts graph → IsIn starts b n
    → ((end : ℕ) → AreAsked G (insts_of c) starts t b n end queries) → MissesValue G (insts_of c) t n
    → IsFirstUnavailable graph queries None → ⊥
some_unavailable G c f starts graph Uses b n queries is g i all m none =
    let e : m.function ≡ f = function_same (insts_of c) n m.function f
    (walk_within G (insts_of c) m.function m.past n m.walk) (g.divided.of b n i) in
    not_unavailable G c f starts graph is g n (use_available G c f starts graph b n queries g i m.other all none)
    (inl (m, e))
some_unavailable G c f starts graph Pairs b n queries is g i all m none =
    let e : m.comes.function ≡ f = function_same (insts_of c) n m.comes.function f
    (walk_within G (insts_of c) m.comes.function m.comes.past n m.comes.walk) (g.divided.of b n i) in
    not_unavailable G c f starts graph is g n (pair_available G c f starts graph b n queries g i m.phi all none)
    (inr (m, e))

-- The query of the first operand that is unavailable.

found_at : (queries : List Query) (k : ℕ) (a : Query) → slice_get queries k ≡ Some a → Contains queries a
found_at queries k a h = (k, slice_get_within queries k a h, get_or_from_slice_get queries k a a h)

pub unavailable_step : (graph : Graph) (queries : List Query) (i : ℕ)
    → ((a : Query) → Contains queries a → a.step < 4294967295)
    → IsFirstUnavailable graph queries (Some i) → i < 4294967295
unavailable_step graph queries i below (here, before) =
    let l = below here.1 (found_at queries here.0 here.1 here.2) in
    let e : here.1.step ≡ i = here.3 in
    omega (arith, l, e)

unavailable_asked : (G : Table) (is : List PlainInst) (starts : List ℕ) (graph : Graph) (t : Taking) (b n end i : ℕ)
    (queries : List Query) → AreAsked G is starts t b n end queries
    → IsFirstUnavailable graph queries (Some i)
    → (a : Query) × IsQueryOf G is starts t b n i (numbered a n) × IsUnavailable graph a.value a.block
unavailable_asked G is starts graph t b n end i queries all (here, before) =
    let a = here.1 in
    let h = all.sound a (found_at queries here.0 a here.2) in
    let e : a.step ≡ i = here.3 in
    (a, subst (λ (k : ℕ). IsQueryOf G is starts t b n k (numbered a n)) e h, here.4)

pub operand_asked : (G : Table) (is : List PlainInst) (starts : List ℕ) (graph : Graph) (t : Taking) (b n end i : ℕ)
    (queries : List Query) → AreAsked G is starts t b n end queries
    → IsFirstUnavailable graph queries (Some i) → ((a : Query) → ¬ (IsQueryOf G is starts t b n i a)) → ⊥
operand_asked G is starts graph t b n end i queries all first none =
    let m = unavailable_asked G is starts graph t b n end i queries all first in
    none (numbered m.0 n) m.1

pub query_unavailable : (G : Table) (c : Code) (b : Blocks) (graph : Graph) (t : Taking) (block n end i : ℕ)
    (queries : List Query)
    (s : Query) → IsCode G c → AreBlocks (insts_of c) b
    → AreAsked G (insts_of c) b.starts.now t block n end queries → IsFirstUnavailable graph queries (Some i)
    → IsQueryOf G (insts_of c) b.starts.now t block n i s
    → IsUnavailableQuery G (insts_of c) b.starts.now graph t block n (numbered s i)
query_unavailable G c b graph t block n end i queries s is are all first h =
    let m = unavailable_asked G (insts_of c) b.starts.now graph t block n end i queries all first in
    let e : numbered m.0 n ≡ s = one_query G c b t block n i (numbered m.0 n) s is are m.1 h in
    let unavailable : IsUnavailable graph s.value s.block = subst
    (λ (a : Query). IsUnavailable graph a.value a.block) e m.2 in
    record {
      asked = subst (λ (x : Query). IsQueryOf G (insts_of c) b.starts.now t block n i x)
          (as_asked s n (step_of G (insts_of c) b.starts.now t block n i s h)) h;
      unavailable = unavailable;
    }
