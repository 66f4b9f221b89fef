-- From a way to the evidence.
use Rattle.std.proofs.Common.{◌≡◌, ◌<◌, ◌≤◌, ◌+◌, ◌++◌, ◌∙◌, ℕ, zero, suc, List, [], ◌∷◌, Some, refl, sym, ap, subst}
use Rattle.std.proofs.Common.{reverse, arith}
use Rattle.std.proofs.lemmas.Bool.{eqb-true}
use Rattle.std.specs.Prelude.{All, slice_get, slice_index}
use Rattle.std.proofs.lemmas.List.Elements.{All-nil, All-cons, All-append}
use Rattle.spv_table.specs.Table.{Table}
use Rattle.spv_module.specs.Operand.{PlainInst}
use Rattle.spv_module.specs.declared.fault.Rule.{Rule}
use Rattle.spv_module.specs.declared.fault.Rule.TheVariants.{A1, A2}
use Rattle.spv_module.specs.declared.opcode.TheConstants as opcode
use Rattle.spv_layout.specs.declared.form.Role.{Role}
use Rattle.spv_layout.specs.declared.form.Form.{Form}
use Rattle.spv_layout.specs.First.{stage_of, IsUnbroken}
use Rattle.spv_layout.specs.inner.Row.{R}
use Rattle.spv_layout.specs.Shape.{IsUse}
use Rattle.spv_layout.specs.Stage.{of_branches}
use Rattle.spv_layout.proofs.Places.{function_same}
use Rattle.spv_ids.specs.Definition.{IsDefinedAt, IsUsedAt}
use Rattle.spv_graphs.specs.declared.graph.Graph.{Graph}
use Rattle.spv_graphs.specs.declared.queries.Query.{Query}
use Rattle.spv_graphs.specs.Graph.{block_count}
use Rattle.spv_graphs.specs.Path.{IsPath}
use Rattle.spv_flow.specs.branches.Target.{is_label, is_phi, IsOp}
use Rattle.spv_flow.specs.branches.Ready.{IsMissing, IsPairMissing}
use Rattle.spv_flow.specs.declared.branches.fork.Fork.{Fork}
use Rattle.spv_flow.specs.branches.Broken.{Broken}
use Rattle.spv_flow.proofs.lemmas.branches.Firsts.{holds}
use Rattle.spv_flow.proofs.lemmas.branches.Labelled.{use_in}
use Rattle.spv_flow.proofs.lemmas.walks.Staged.{IsStaged, staged}
use Rattle.spv_flow.specs.declared.walks.code.Code.{Code}
use Rattle.spv_flow.specs.walks.inner.Code.{insts_of, IsCode}
use Rattle.spv_flow.specs.walks.inner.Divided.{IsIn, IsGraphOf}
use Rattle.spv_flow.specs.walks.inner.Due.{IsUseQuery, IsPairQuery}
use Rattle.spv_flow.proofs.lemmas.walks.Coded.{one_place}
use Rattle.spv_flow.proofs.lemmas.walks.Ended.{label_forms}
use Rattle.spv_flow.proofs.lemmas.walks.Pairs.{came_from, target_label}
use Rattle.spv_flow.proofs.lemmas.walks.Parents.{parents_lead}
use Rattle.spv_flow.proofs.lemmas.walks.Deciding.{walk_within}
use Rattle.spv_evidence.specs.declared.evidence.Evidence.{Evidence}
use Rattle.spv_evidence.specs.declared.evidence.Evidence.TheVariants.{Walk}
use Rattle.spv_flow_evidence.specs.walks.Evidence.{AreFewest, AreFewestFrom, IsEvidence}
use Rattle.spv_flow_evidence.specs.declared.walks.queries.Taking.{Taking}
use Rattle.spv_flow_evidence.specs.declared.walks.queries.Taking.TheVariants.{Uses, Pairs}
use Rattle.spv_flow_evidence.specs.walks.inner.Asked.{MissesValue, numbered, IsUnavailableQuery}
use Rattle.spv_graphs.specs.inner.Edges.{IsShortestPast}
use Rattle.spv_flow_evidence.specs.walks.inner.Way.{whole, labels_of}
use Rattle.spv_flow_evidence.specs.walks.inner.Shown.{IsShown}
use Rattle.spv_flow_evidence.proofs.lemmas.walks.Labels.{reverse_cons}
use Rattle.spv_flow_evidence.proofs.lemmas.walks.Walks.{use_walk, use_fewest, pair_walk, pair_fewest}

-- An OpLabel uses nothing.

result_unused : (G : Table) (i : PlainInst) (k x : ℕ) (r : Role) → (u : IsUse G i k x r) → u.forms ≡ R ∷ [] → ⊥
result_unused G i zero x r u e =
    let f : Some R ≡ Some u.form = sym (ap (λ (fs : List Form). slice_get fs 0) e) ∙ u.form_at in
    let s : R ≡ u.form = cc in
    let none = rw (← s) at u.role in
    cc
result_unused G i (suc k) x r u e =
    let f = sym (ap (λ (fs : List Form). slice_get fs (suc k)) e) ∙ u.form_at in
    cc

unused : (G : Table) (c : Code) (n k x : ℕ) (r : Role) → IsCode G c → IsUsedAt G (insts_of c) n k x r
    → ¬ (IsOp (insts_of c) n is_label)
unused G c n k x r is u op =
    let h = holds (insts_of c) n is_label op in
    let w = use_in G (insts_of c) n k x r h.inst h.there u in
    result_unused G h.inst k x r w (label_forms G h.inst w.forms w.has (eqb-true h.inst.opcode opcode.LABEL h.holds))

-- the definition of an id is one
only_at : (G : Table) (c : Code) (x d : ℕ) → IsCode G c → IsDefinedAt (insts_of c) x d → (k : ℕ)
    → IsDefinedAt (insts_of c) x k → k ≡ d
only_at G c x d is at k there = one_place G c x k d is there at

use_shown : (G : Table) (c : Code) (f : ℕ) (starts : List ℕ) (graph : Graph) → IsCode G c
    → IsGraphOf G (insts_of c) f starts graph
    → (b n : ℕ) (a : Query) (way : List ℕ) → IsIn starts b n → ¬ (IsOp (insts_of c) n is_phi)
    → IsUseQuery G (insts_of c) starts b n a.step (numbered a n)
    → IsShortestPast graph a.value a.block way
    → IsEvidence G (insts_of c) A1 n (Walk a.step a.value (labels_of starts way))
use_shown G c f starts graph is g b n a way i other u s =
    let at : a.block ≡ b = u.block in
    let not = unused G c n a.step u.id u.role is u.used in
    let path : IsPath graph s.past b = subst (λ (j : ℕ). IsPath graph s.past j) at s.path in
    let w = use_walk G (insts_of c) f starts graph g b n u.id a.value s.past i
    (only_at G c u.id a.value is u.defined) u.apart not path s.undefined in
    let m : IsMissing G (insts_of c) n = record {
      other = other;
      function = f;
      past = w.past;
      walk = w.walk;
      operand = a.step;
      id = u.id;
      role = u.role;
      used = u.used;
      local = u.local;
      undefined = w.undefined;
    } in
    let fewest : AreFewest G (insts_of c) n u.id (labels_of starts (reverse (b ∷ s.past))) =
    use_fewest G (insts_of c) f starts graph g b n u.id a.value s.past i u.defined not
    (λ past to none. s.least past (subst (λ (j : ℕ). IsPath graph past j) (sym at) to) none) in
    let shown = IsEvidence.missing n a.value m u.defined
    (subst (λ (xs : List ℕ). AreFewest G (insts_of c) n u.id xs) (sym w.blocks) fewest) in
    let e = w.blocks ∙ ap (λ (j : ℕ). labels_of starts (reverse (j ∷ s.past))) (sym at)
    ∙ ap (labels_of starts) (sym s.blocks) in
    subst (λ (xs : List ℕ). IsEvidence G (insts_of c) A1 n (Walk a.step a.value xs)) e shown

pair_shown : (G : Table) (c : Code) (f : ℕ) (starts : List ℕ) (graph : Graph) → IsCode G c
    → IsGraphOf G (insts_of c) f starts graph
    → (b n : ℕ) (a : Query) (way : List ℕ) → IsIn starts b n → IsOp (insts_of c) n is_phi
    → IsOp (insts_of c) (slice_index starts b) is_label
    → IsPairQuery G (insts_of c) starts n a.step (numbered a n) → IsShortestPast graph a.value a.block way
    → IsEvidence G (insts_of c) A2 n (Walk a.step a.value (labels_of starts (way ++ b ∷ [])))
pair_shown G c f starts graph is g b n a way i phi label p s =
    let h : ℕ = a.block in
    let target = parents_lead G c f starts graph is g b h n (a.step + 1) p.id i label phi p.inside p.named p.label in
    let w = pair_walk G (insts_of c) f starts graph g b h n p.value a.value s.past i phi p.inside p.label.label target
    (only_at G c p.value a.value is p.defined) p.apart s.path s.undefined in
    let m : IsPairMissing G (insts_of c) n = record {
      phi = phi;
      value = p.value;
      parent = slice_index starts h;
      before = w.before;
      pair = record { operand = a.step; paired = p.paired; id = p.id; named = p.named; label = p.label };
      comes = w.comes;
      local = p.local;
      undefined = w.undefined;
    } in
    let fewest : AreFewestFrom G (insts_of c) n (slice_index starts h) p.value
    (labels_of starts (reverse (b ∷ h ∷ s.past))) =
    pair_fewest G (insts_of c) f starts graph g b h n p.value a.value s.past i phi p.inside p.defined s.least in
    let shown = IsEvidence.pair_missing n a.value m p.defined
    (subst (λ (xs : List ℕ). AreFewestFrom G (insts_of c) n (slice_index starts h) p.value xs)
    (sym w.blocks) fewest) in
    let e = w.blocks ∙ ap (labels_of starts) (reverse_cons b (h ∷ s.past))
    ∙ ap (λ (xs : List ℕ). labels_of starts (xs ++ b ∷ [])) (sym s.blocks) in
    subst (λ (xs : List ℕ). IsEvidence G (insts_of c) A2 n (Walk a.step a.value xs)) e shown

-- the block of an OpPhi to which a walk comes from a block begins with an OpLabel
phi_block : (G : Table) (is : List PlainInst) (f : ℕ) (starts : List ℕ) (graph : Graph) → IsGraphOf G is f starts graph
    → (b n : ℕ) → IsIn starts b n → IsPairMissing G is n → IsOp is (slice_index starts b) is_label
phi_block G is f starts graph g b n i m =
    let e : m.comes.function ≡ f = function_same is n m.comes.function f
    (walk_within G is m.comes.function m.comes.past n m.comes.walk) (g.divided.of b n i) in
    let r = came_from G is f starts graph g b n m.parent m.before i m.phi m.comes e in
    (target_label G is f starts graph g r.from b r.inside r.path.1).1

pub shown : (G H : Table) (c : Code) (f : ℕ) (starts : List ℕ) (graph : Graph) (t : Taking) (b n : ℕ) (a : Query)
    (way : List ℕ) → IsCode G c → IsGraphOf G (insts_of c) f starts graph
    → IsGraphOf H (insts_of c) f starts graph → IsIn starts b n → MissesValue H (insts_of c) t n
    → IsUnavailableQuery G (insts_of c) starts graph t b n a → IsShortestPast graph a.value a.block way
    → IsShown G (insts_of c) t n (Walk a.step a.value (labels_of starts (whole t b way)))
shown G H c f starts graph Uses b n a way is g h i m k s =
    use_shown G c f starts graph is g b n a way i m.other k.asked s
shown G H c f starts graph Pairs b n a way is g h i m k s =
    pair_shown G c f starts graph is g b n a way i m.phi (phi_block H (insts_of c) f starts graph h b n i m) k.asked s

-- The blocks of a way are there.

all_reverse : (P : ℕ → Type 0) (xs : List ℕ) → All P xs → All P (reverse xs)
all_reverse P [] all = all
all_reverse P (x ∷ xs) all =
    subst (λ (ys : List ℕ). All P ys) (sym (reverse_cons x xs))
    (All-append P (reverse xs) (x ∷ []) (all_reverse P xs (λ k d lt. all (suc k) d (omega (arith, lt))))
    (All-cons P x [] (all 0 x (omega arith)) (All-nil P)))

path_within : (graph : Graph) (n : ℕ) → block_count graph ≤ n → (past : List ℕ) (b : ℕ) → IsPath graph past b → b < n
    → All (λ (j : ℕ). j < n) (b ∷ past)
path_within graph n le [] b path lt = All-cons (λ (j : ℕ). j < n) b [] lt (All-nil (λ (j : ℕ). j < n))
path_within graph n le (h ∷ past) b path lt =
    let l = path.0 in
    All-cons (λ (j : ℕ). j < n) b (h ∷ past) lt (path_within graph n le past h path.2 (omega (arith, l, le)))

pub way_within : (graph : Graph) (v b block n : ℕ) (t : Taking) (way : List ℕ) → block_count graph ≤ n → b < n
    → block < n → IsShortestPast graph v b way → All (λ (j : ℕ). j < n) (whole t block way)
way_within graph v b block n Uses way le lt here s =
    subst (λ (xs : List ℕ). All (λ (j : ℕ). j < n) xs) (sym s.blocks)
    (all_reverse (λ (j : ℕ). j < n) (b ∷ s.past) (path_within graph n le s.past b s.path lt))
way_within graph v b block n Pairs way le lt here s =
    let P : ℕ → Type 0 = λ j. j < n in
    All-append P way (block ∷ []) (subst (λ (xs : List ℕ). All P xs) (sym s.blocks)
    (all_reverse P (b ∷ s.past) (path_within graph n le s.past b s.path lt)))
    (All-cons P block [] here (All-nil P))

-- What the broken rule says of the instruction.

staged_misses : (G : Table) (is : List PlainInst) (r : Rule) (n : ℕ) (t : Taking) → (stage_of r ≡ of_branches → ⊥)
    → IsStaged G is r n → (r ≡ A1 → t ≡ Uses) → (r ≡ A2 → t ≡ Pairs) → MissesValue G is t n
staged_misses G is _ _ t none (IsStaged.branches r n e) a b = absurd (none e)
staged_misses G is _ _ t none (IsStaged.missing n m) a b =
    subst (λ (s : Taking). MissesValue G is s n) (sym (a refl)) m
staged_misses G is _ _ t none (IsStaged.pair_missing n m) a b =
    subst (λ (s : Taking). MissesValue G is s n) (sym (b refl)) m

pub misses : (fork : Fork) (G : Table) (is : List PlainInst) (r : Rule) (n : ℕ) (t : Taking)
    → IsUnbroken (Broken fork G is) of_branches → Broken fork G is r n
    → (r ≡ A1 → t ≡ Uses) → (r ≡ A2 → t ≡ Pairs) → MissesValue G is t n
misses fork G is r n t none broken a b =
    staged_misses G is r n t (λ e. none r n e broken) (staged fork G is r n broken) a b

staged_shown : (G H : Table) (is : List PlainInst) (r : Rule) (n : ℕ) (t : Taking) (e : Evidence)
    → (stage_of r ≡ of_branches → ⊥) → IsStaged H is r n
    → (r ≡ A1 → t ≡ Uses) → (r ≡ A2 → t ≡ Pairs) → IsShown G is t n e → IsEvidence G is r n e
staged_shown G H is _ _ t e none (IsStaged.branches r n f) a b h = absurd (none f)
staged_shown G H is _ _ t e none (IsStaged.missing n m) a b h =
    subst (λ (s : Taking). IsShown G is s n e) (a refl) h
staged_shown G H is _ _ t e none (IsStaged.pair_missing n m) a b h =
    subst (λ (s : Taking). IsShown G is s n e) (b refl) h

pub as_rule : (fork : Fork) (G H : Table) (is : List PlainInst) (r : Rule) (n : ℕ) (t : Taking) (e : Evidence)
    → IsUnbroken (Broken fork H is) of_branches → Broken fork H is r n
    → (r ≡ A1 → t ≡ Uses) → (r ≡ A2 → t ≡ Pairs) → IsShown G is t n e → IsEvidence G is r n e
as_rule fork G H is r n t e none broken a b h =
    staged_shown G H is r n t e (λ f. none r n f broken) (staged fork H is r n broken) a b h
