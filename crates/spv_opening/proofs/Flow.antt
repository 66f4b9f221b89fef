-- What breaks a rule of flow breaks it where the module is opened, too.
use Rattle.std.proofs.Common.{◌≡◌, ◌+◌, ◌⊎◌, inl, inr, ℕ, List, Bool, true, false, Option, Some, None, map, refl, sym}
use Rattle.std.proofs.Common.{subst, ◌∙◌, Any}
use Rattle.std.specs.Prelude.{slice_get, nat_le, ◌&&◌, ◌||◌, IsTrue, IsSomeAnd}
use Rattle.spv_table.specs.Table.{Table}
use Rattle.spv_module.specs.Operand.{PlainInst}
use Rattle.spv_module.specs.declared.opcode.TheConstants as opcode
use Rattle.spv_module.specs.declared.fault.Rule.{Rule}
use Rattle.spv_extended.specs.declared.set.Set.{Set}
use Rattle.spv_extended.specs.Opened.{opened_inst}
use Rattle.spv_layout.specs.declared.form.Role.{Role}
use Rattle.spv_layout.specs.declared.form.Role.TheVariants.{Label, Value}
use Rattle.spv_ids.specs.Definition.{IsDefinedAt, IsUsedAt}
use Rattle.spv_flow.specs.declared.branches.fork.Fork.{Fork}
use Rattle.spv_flow.specs.branches.Broken.{Broken}
use Rattle.spv_flow.specs.branches.Target.{is_opcode, is_branch, is_merge, IsOp, IsLabelOf, IsTarget, IsPredecessor}
use Rattle.spv_flow.specs.branches.Target.{IsParentAt, HasParents, IsEntryLabel}
use Rattle.spv_flow.specs.branches.Walk.{Next, IsWalk, IsLastLabel}
use Rattle.spv_flow.specs.branches.Ready.{IsLocalValue, IsMissing, IsPair, ComesFrom, IsPairMissing}
use Rattle.spv_opening.proofs.Alike.{Alike, alike_opened, back, defined, other_at}
use Rattle.spv_opening.proofs.Spots.{of_block, of_function, local}
use Rattle.spv_opening.proofs.Uses.{used, used_elsewhere}

pub record There (is : List PlainInst) (n : ℕ) (P : PlainInst → Type 0) : Type 0 where
  pub inst : PlainInst
  pub there : slice_get is n ≡ Some inst
  pub holds : P inst

pub there : (is : List PlainInst) (n : ℕ) (P : PlainInst → Type 0) → IsSomeAnd (slice_get is n) P → There is n P
there is n P s = by (slice_get is n) refl s
  where
    by : (o : Option PlainInst) → slice_get is n ≡ o → IsSomeAnd o P → There is n P
    by (Some i) e h = record { inst = i; there = e; holds = h }
    by None e h = absurd h

op_of : (is : List PlainInst) (n : ℕ) (test : ℕ → Bool) (i : PlainInst) → slice_get is n ≡ Some i
    → IsTrue (test i.opcode) → IsOp is n test
op_of is n test i e h = subst (λ o. IsSomeAnd o (λ (j : PlainInst). IsTrue (test j.opcode))) (sym e) h

pub op : (is js : List PlainInst) → Alike is js → (n : ℕ) (test : ℕ → Bool) → IsOp is n test → IsOp js n test
op is js a n test h =
    let t = there is n (λ i. IsTrue (test i.opcode)) h in
    let o = other_at is js a n t.inst t.there in
    op_of js n test o.inst o.there (subst (λ code. IsTrue (test code)) o.looks.opcode t.holds)

-- an instruction with such an opcode is no OpExtInst
no_call : (is : List PlainInst) (n : ℕ) (test : ℕ → Bool) (i : PlainInst) → test opcode.EXT_INST ≡ false
    → IsOp is n test → slice_get is n ≡ Some i → i.opcode ≡ opcode.EXT_INST → ⊥
no_call is n test i never h e call =
    let t : IsTrue (test i.opcode) = subst (λ o. IsSomeAnd o (λ (j : PlainInst). IsTrue (test j.opcode))) e h in
    let f : IsTrue (test opcode.EXT_INST) = subst (λ code. IsTrue (test code)) call t in
    let g : true ≡ false = sym f ∙ never in
    cc

used_by : (G : Table) (is js : List PlainInst) → Alike is js → (test : ℕ → Bool) → test opcode.EXT_INST ≡ false
    → (n k x : ℕ) (r : Role) → IsOp is n test → IsUsedAt G is n k x r
    → IsUsedAt G js n k x r
used_by G is js a test never n k x r h u =
    used_elsewhere G is js a n k x r u (λ call. no_call is n test u.inst never h u.there call)

label_of : (is js : List PlainInst) → Alike is js → (x m : ℕ) → IsLabelOf is x m → IsLabelOf js x m
label_of is js a x m l =
    record { defined = defined is js a x m l.defined; label = op is js a m (is_opcode opcode.LABEL) l.label }

target : (G : Table) (is js : List PlainInst) → Alike is js → (n x : ℕ) → IsTarget G is n x → IsTarget G js n x
target G is js a n x t =
    record {
      branch = op is js a n is_branch t.branch;
      operand = t.operand;
      used = used_by G is js a is_branch refl n t.operand x Label t.branch t.used;
    }

predecessor : (G : Table) (is js : List PlainInst) → Alike is js → (b p : ℕ) → IsPredecessor G is b p
    → IsPredecessor G js b p
predecessor G is js a b p (t, l) = (
  t,
  record {
    of = of_block is js a t p l.of;
    id = l.id;
    target = target G is js a t l.id l.target;
    label = label_of is js a l.id b l.label;
  },
)

entry_label : (is js : List PlainInst) → Alike is js → (m : ℕ) → IsEntryLabel is m → IsEntryLabel js m
entry_label is js a m l =
    let b = back is js a in
    record {
      label = op is js a m (is_opcode opcode.LABEL) l.label;
      function = l.function;
      there = op is js a l.function (is_opcode opcode.FUNCTION) l.there;
      after = l.after;
      first = λ k x y z. l.first k x y (op js is b k (is_opcode opcode.LABEL) z);
      same = λ k x y z. l.same k x y (op js is b k (is_opcode opcode.FUNCTION) z);
    }

-- the parents of an OpPhi
parent_at : (G : Table) (is js : List PlainInst) → Alike is js → (n k p : ℕ) → IsOp is n (is_opcode opcode.PHI)
    → IsParentAt G is n k p → IsParentAt G js n k p
parent_at G is js a n k p phi q =
    record {
      id = q.id;
      used = used_by G is js a (is_opcode opcode.PHI) refl n k q.id Label phi q.used;
      label = label_of is js a q.id p q.label;
    }

parents : (G : Table) (is js : List PlainInst) → Alike is js → (n : ℕ) → IsOp is n (is_opcode opcode.PHI)
    → HasParents G is n → HasParents G js n
parents G is js a n phi h =
    let b = back is js a in
    let phi' = op is js a n (is_opcode opcode.PHI) phi in
    record {
      block = h.block;
      of = of_block is js a n h.block h.of;
      each = λ k x u.
          let e = h.each k x (used_by G js is b (is_opcode opcode.PHI) refl n k x Label phi' u) in
          (e.0, label_of is js a x e.0 e.1, predecessor G is js a h.block e.0 e.2);
      once = λ j k p x y. h.once j k p (parent_at G js is b n j p phi' x) (parent_at G js is b n k p phi' y);
      all = λ p q. let e = h.all p (predecessor G js is b h.block p q) in (e.0, parent_at G is js a n e.0 p phi e.1);
    }

-- Walks.

next : (G : Table) (is js : List PlainInst) → Alike is js → (n m : ℕ) → Next G is n m → Next G js n m
next G is js a n m (Next.jumps x _ t l) = Next.jumps x m (target G is js a n x t) (label_of is js a x m l)
next G is js a n _ (Next.follows never) =
    Next.follows (λ h. never (op js is (back is js a) n
    (λ code. is_branch code || (nat_le opcode.RETURN code && nat_le code opcode.UNREACHABLE)) h))

walk : (G : Table) (is js : List PlainInst) → Alike is js → (f : ℕ) (past : List ℕ) (n : ℕ) → IsWalk G is f past n
    → IsWalk G js f past n
walk G is js a f _ _ (IsWalk.begins h) = IsWalk.begins (op is js a f (is_opcode opcode.FUNCTION) h)
walk G is js a f _ _ (IsWalk.goes past n m w x o) =
    IsWalk.goes past n m (walk G is js a f past n w) (next G is js a n m x) (of_function is js a m f o)

last_label : (is js : List PlainInst) → Alike is js → (past : List ℕ) (b : ℕ) (before : List ℕ)
    → IsLastLabel is past b before → IsLastLabel js past b before
last_label is js a past b before l = record {
  later = l.later;
  divided = l.divided;
  label = op is js a b (is_opcode opcode.LABEL) l.label;
  last = λ k x y h. l.last k x y (op js is (back is js a) _ (is_opcode opcode.LABEL) h);
}

local_value : (is js : List PlainInst) → Alike is js → (x : ℕ) → IsLocalValue is x → IsLocalValue js x
local_value is js a x l =
    let o = other_at is js a l.place l.inst l.there in
    record {
      local = local is js a x l.local;
      place = l.place;
      defined = defined is js a x l.place l.defined;
      inst = o.inst;
      there = o.there;
      of_type = l.of_type;
      typed = sym o.looks.type ∙ l.typed;
    }

undefined : (is js : List PlainInst) → Alike is js → (x : ℕ) (past : List ℕ) → Any (λ m. IsDefinedAt is x m) past
    → Any (λ m. IsDefinedAt js x m) past
undefined is js a x past (k, m, l, e, d) = (k, m, l, e, defined is js a x m d)

comes_from : (G : Table) (is js : List PlainInst) → Alike is js → (n parent : ℕ) (before : List ℕ)
    → ComesFrom G is n parent before → ComesFrom G js n parent before
comes_from G is js a n parent before c = record {
  function = c.function;
  past = c.past;
  walk = walk G is js a c.function c.past n c.walk;
  block = c.block;
  here = last_label is js a c.past c.block before c.here;
  earlier = c.earlier;
  from = last_label is js a before parent c.earlier c.from;
}

pair : (G : Table) (is js : List PlainInst) → Alike is js → (n value parent : ℕ) → IsOp is n (is_opcode opcode.PHI)
    → IsPair G is n value parent → IsPair G js n value parent
pair G is js a n value parent phi p = record {
  operand = p.operand;
  paired = used_by G is js a (is_opcode opcode.PHI) refl n p.operand value Value phi p.paired;
  id = p.id;
  named = used_by G is js a (is_opcode opcode.PHI) refl n (p.operand + 1) p.id Label phi p.named;
  label = label_of is js a p.id parent p.label;
}

-- The rules.

labelled : (G : Table) (is js : List PlainInst) → Alike is js → (n k x : ℕ)
    → IsOp is n is_branch ⊎ IsOp is n (λ code. nat_le opcode.LOOP_MERGE code && nat_le code opcode.SELECTION_MERGE)
    → IsUsedAt G is n k x Label → IsUsedAt G js n k x Label
labelled G is js a n k x (inl b) u = used_by G is js a is_branch refl n k x Label b u
labelled G is js a n k x (inr b) u = used_by G is js a is_merge refl n k x Label b u

branch_or_merge : (is js : List PlainInst) → Alike is js → (n : ℕ)
    → IsOp is n is_branch ⊎ IsOp is n (λ code. nat_le opcode.LOOP_MERGE code && nat_le code opcode.SELECTION_MERGE)
    → IsOp js n is_branch ⊎ IsOp js n (λ code. nat_le opcode.LOOP_MERGE code && nat_le code opcode.SELECTION_MERGE)
branch_or_merge is js a n (inl b) = inl (op is js a n is_branch b)
branch_or_merge is js a n (inr b) = inr (op is js a n is_merge b)

missing : (G : Table) (sets : ℕ → Set) (is : List PlainInst) (n : ℕ) → IsMissing G is n
    → IsMissing G (map (opened_inst sets) is) n
missing G sets is n m =
    let js = map (opened_inst sets) is in
    let a = alike_opened sets is in
    let b = back is js a in
    record {
      other = λ phi. m.other (op js is b n (is_opcode opcode.PHI) phi);
      function = m.function;
      past = m.past;
      walk = walk G is js a m.function m.past n m.walk;
      operand = m.operand;
      id = m.id;
      role = m.role;
      used = used G sets is n m.operand m.id m.role m.used;
      local = local_value is js a m.id m.local;
      undefined = λ d. m.undefined (undefined js is b m.id m.past d);
    }

pair_missing : (G : Table) (is js : List PlainInst) → Alike is js → (n : ℕ) → IsPairMissing G is n
    → IsPairMissing G js n
pair_missing G is js a n m = record {
  phi = op is js a n (is_opcode opcode.PHI) m.phi;
  value = m.value;
  parent = m.parent;
  before = m.before;
  pair = pair G is js a n m.value m.parent m.phi m.pair;
  comes = comes_from G is js a n m.parent m.before m.comes;
  local = local_value is js a m.value m.local;
  undefined = λ d. m.undefined (undefined js is (back is js a) m.value m.before d);
}

pub flow_broken : (fork : Fork) (G : Table) (sets : ℕ → Set) (is : List PlainInst) (r : Rule) (n : ℕ)
    → Broken fork G is r n
    → Broken fork G (map (opened_inst sets) is) r n
flow_broken fork G sets is _ _ (Broken.no_label n k x b u never) =
    let js = map (opened_inst sets) is in
    let a = alike_opened sets is in
    Broken.no_label n k x (branch_or_merge is js a n b) (labelled G is js a n k x b u)
    (λ m l. never m (label_of js is (back is js a) x m l))
flow_broken fork G sets is _ _ (Broken.to_entry n x m t d e) =
    let js = map (opened_inst sets) is in
    let a = alike_opened sets is in
    Broken.to_entry n x m (target G is js a n x t) (defined is js a x m d) (entry_label is js a m e)
flow_broken fork G sets is _ _ (Broken.parents n phi never) =
    let js = map (opened_inst sets) is in
    let a = alike_opened sets is in
    let phi' = op is js a n (is_opcode opcode.PHI) phi in
    Broken.parents n phi' (λ h. never (parents G js is (back is js a) n phi' h))
flow_broken fork G sets is _ _ (Broken.same_labels n x distinct c u v) =
    let js = map (opened_inst sets) is in
    let a = alike_opened sets is in
    Broken.same_labels n x distinct (op is js a n (is_opcode opcode.BRANCH_CONDITIONAL) c)
    (used_by G is js a (is_opcode opcode.BRANCH_CONDITIONAL) refl n 1 x Label c u)
    (used_by G is js a (is_opcode opcode.BRANCH_CONDITIONAL) refl n 2 x Label c v)
flow_broken fork G sets is _ _ (Broken.missing n m) = Broken.missing n (missing G sets is n m)
flow_broken fork G sets is _ _ (Broken.pair_missing n m) =
    Broken.pair_missing n (pair_missing G is (map (opened_inst sets) is) (alike_opened sets is) n m)
