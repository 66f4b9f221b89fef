-- What the loop of the trace keeps.
use Rattle.std.proofs.Common.{◌≡◌, ◌<◌, ◌+◌, ◌-◌, ◌∙◌, ◌++◌, ℕ, suc, List, [], ◌∷◌, refl, sym, ap, subst, arith}
use Rattle.std.proofs.Common.{append_assoc, append-nil, length, reverse, drop, Some, slice_get}
use Rattle.std.proofs.lemmas.List.{length-reverse, length-map}
use Rattle.spv_table.specs.Table.{Table}
use Rattle.spv_module.specs.Operand.{PlainInst}
use Rattle.spv_run.specs.declared.parts.Ending.{Ending}
use Rattle.spv_run.specs.declared.parts.Step.{Step}
use Rattle.spv_run.specs.declared.parts.Ending.TheVariants as ending
use Rattle.spv_run.specs.declared.tracer.Walker.{Walker}
use Rattle.spv_run.specs.State.{Frame, State, Outcome, Goes, Last, Before}
use Rattle.spv_run.specs.Machine.{Does}
use Rattle.spv_run.specs.State as machine
use Rattle.spv_run.specs.Run.{step_of, IsStart, Run, limit, next, last, before}
use Rattle.spv_flow.specs.calls.Calls.{IsEntryFunction}
use Rattle.spv_run.specs.Sound.{KeepsRules}
use Rattle.spv_run.proofs.Checked.{IsChecked}
use Rattle.spv_run.proofs.Sound.{checked}
use Rattle.spv_ids.specs.declared.ids.Ids.{Ids}
use Rattle.spv_ids.specs.Outcome.{AreNumbered}
use Rattle.spv_run.specs.Act.{act_of}
use Rattle.spv_run.specs.inner.Bodies.{HaveEntries}
use Rattle.spv_run.specs.Trace.{ending_of}
use Rattle.spv_run.specs.inner.Trace.{Kept, kept, Comes, IsTurn, IsRun}
use Rattle.spv_run.specs.inner.Trace as trace_inner
use Rattle.spv_run.proofs.Stacks.{Stack, top_stands, started, preserved}
use Rattle.spv_run.proofs.Progress.{progress}
use Rattle.spv_run.proofs.Simulates.{returns_to, kept_of, Shows, simulated}

-- After i steps from s the run stands where k is kept, and what it goes on with is the rest of the run from s.
pub record Ongoing (G : Table) (is : List PlainInst) (g : ℕ) (s : State) (i : ℕ) (steps : List Step)
    (k : Kept) : Type 0 where
  pub now : State
  pub stack : Stack is g now.top now.below
  pub same : k ≡ kept_of now
  pub more : (n : ℕ) (rest : List Step) (e : machine.Ending) → Run G is n now rest e
      → Run G is (i + n) s (steps ++ rest) e

-- what was found of a module, and where its run begins
pub record Found : Type 0 where
  pub insts : List PlainInst
  pub ids : Ids
  pub entries : List ℕ
  pub entry : ℕ
  pub choices : List ℕ

abbrev pub Going : Found → ℕ → List Step → Walker → Type 0
Going m i steps w =
    (G : Table) (bound g : ℕ) (s : State)
    → KeepsRules G bound m.insts → AreNumbered m.insts m.ids → HaveEntries m.insts m.entries → IsEntryFunction m.insts g
    → IsStart m.insts g m.choices s → s.top.position ≡ m.entry
    → Ongoing G m.insts g s i steps (kept w m.choices)

abbrev TurnsTo : Found → Walker → trace_inner.Turn → Type 0
TurnsTo m w t = IsTurn m.insts m.ids m.entries (kept w m.choices) t

abbrev Told : Found → ℕ → List Step → Ending → Type 0
Told m most steps e = IsRun m.insts m.ids m.entries m.entry m.choices most steps e

abbrev step_at : ℕ → ℕ → Step
step_at d n = record { depth = d; inst = n }

-- the outcome of a turn
goes : (G : Table) (is : List PlainInst) (s : State) (k : Kept) (o : Outcome) → Does G is s o
    → Shows o (trace_inner.Goes k) → (after : State) × Does G is s (Goes after) × (k ≡ kept_of after)
goes G is s k (Goes after) d h = (after, d, h)
goes G is s k (Last e) d h = absurd h
goes G is s k (Before e) d h = absurd h

ends : (G : Table) (is : List PlainInst) (s : State) (e : Ending) (o : Outcome) → Does G is s o
    → Shows o (trace_inner.Last e) → Does G is s (Last (ending_of e))
ends G is s e (Goes after) d h = absurd h
ends G is s e (Last f) d h = let P : machine.Ending → Type 0 = λ z. Does G is s (Last z) in subst P h d
ends G is s e (Before f) d h = absurd h

ends_before : (G : Table) (is : List PlainInst) (s : State) (e : Ending) (o : Outcome) → Does G is s o
    → Shows o (trace_inner.Before e) → Does G is s (Before (ending_of e))
ends_before G is s e (Goes after) d h = absurd h
ends_before G is s e (Last f) d h = absurd h
ends_before G is s e (Before f) d h = let P : machine.Ending → Type 0 = λ z. Does G is s (Before z) in subst P h d

-- what comes of the state where the run stands
outcome : (G : Table) (is : List PlainInst) → IsChecked G is
    → (g : ℕ) (s : State) (i : ℕ) (steps : List Step) (k : Kept) (on : Ongoing G is g s i steps k)
    (t : trace_inner.Turn)
    → ((j : PlainInst) → slice_get is k.position ≡ Some j → Comes is (act_of j) k t)
    → (o : Outcome) × Does G is on.now o × Shows o t
outcome G is ok g s i steps k on t come =
    let p = progress G is ok on.now (top_stands is g on.now.top on.now.below on.stack) in
    let P : Kept → Type 0 = λ q. (j : PlainInst) → slice_get is q.position ≡ Some j → Comes is (act_of j) q t in
    (p.0, p.1, simulated G is ok.once on.now p.0 t (subst P on.same come) p.1)

same_step : (s : State) (w : Walker) (choices : List ℕ) (d : ℕ) → kept w choices ≡ kept_of s
    → d ≡ length w.callers.items → step_at d w.position ≡ step_of s
same_step s w choices d e h =
    let callers : reverse w.callers.items ≡ returns_to s.below = ap (λ (k : Kept). k.callers) e in
    let n : length w.callers.items ≡ length s.below = sym (length-reverse w.callers.items)
    ∙ (ap length callers ∙ length-map s.below (λ (fr : Frame). suc fr.position)) in
    ap (λ k. step_at k w.position) (h ∙ n) ∙ ap (λ k. step_at (length s.below) k) (ap (λ (k : Kept). k.position) e)

moved : (G : Table) (is : List PlainInst) (n m : ℕ) (s : State) (xs ys : List Step) (e : machine.Ending) → n ≡ m
    → xs ≡ ys → Run G is n s xs e → Run G is m s ys e
moved G is n m s xs ys e h g r =
    let P : ℕ → Type 0 = λ k. Run G is k s ys e in
    let Q : List Step → Type 0 = λ zs. Run G is n s zs e in
    subst P h (subst Q g r)

pub going_init : (m : Found) (w : Walker) (steps : List Step) → steps ≡ [] → w.callers.items ≡ [] → w.position ≡ m.entry
    → w.taken ≡ 0 → Going m 0 steps w
going_init m w steps e c p t G bound g s sound num have point start at =
    let choices = m.choices in
    let P : State → Type 0 = λ u. kept_of u ≡ record { position = u.top.position; callers = []; choices = choices } in
    let whole : kept_of s ≡ record { position = s.top.position; callers = []; choices = choices } = subst P
    (sym start.start) refl in
    let kept_at : ℕ → List ℕ → List ℕ → Kept = λ q cs ks. record { position = q; callers = cs; choices = ks } in
    record {
      now = s;
      stack = started G m.insts (checked G bound m.insts sound) g choices s start;
      same = ap (λ q. kept_at q (reverse w.callers.items) (drop w.taken choices)) (p ∙ sym at) ∙
          (ap (λ cs. kept_at s.top.position (reverse cs) (drop w.taken choices)) c
          ∙ (ap (λ n. kept_at s.top.position [] (drop n choices)) t ∙ sym whole));
      more = λ n rest f r. moved G m.insts n (0 + n) s rest (steps ++ rest) f (omega arith)
          (sym (ap (λ zs. zs ++ rest) e)) r;
    }

pub going_on : (m : Found) (i : ℕ) (steps later : List Step) (w v : Walker) (d : ℕ) → Going m i steps w
    → TurnsTo m w (trace_inner.Goes (kept v m.choices))
    → d ≡ length w.callers.items → later ≡ steps ++ step_at d w.position ∷ [] → Going m (i + 1) later v
going_on m i steps later w v d going e h l G bound g s sound num have point start at =
    let is = m.insts in
    let ok = checked G bound is sound in
    let on = going G bound g s sound num have point start at in
    let o = outcome G is ok g s i steps (kept w m.choices) on (trace_inner.Goes (kept v m.choices))
    (λ j there. e.each G bound j sound num have there) in
    let r = goes G is on.now (kept v m.choices) o.0 o.1 o.2 in
    let step = same_step on.now w m.choices d on.same h in
    record {
      now = r.0;
      stack = preserved G is ok g on.now r.0 on.stack r.1;
      same = r.2;
      more = λ n rest f run.
          moved G is (i + suc n) ((i + 1) + n) s (steps ++ step_of on.now ∷ rest) (later ++ rest) f (omega arith)
          (ap (λ z. steps ++ z ∷ rest) (sym step)
          ∙ sym (ap (λ zs. zs ++ rest) l ∙ append_assoc steps (step_at d w.position ∷ []) rest))
          (on.more (suc n) (step_of on.now ∷ rest) f (next n on.now r.0 rest f r.1 run));
    }

pub going_last : (m : Found) (i most : ℕ) (steps later : List Step) (w : Walker) (d : ℕ) (f : Ending)
    → Going m i steps w → TurnsTo m w (trace_inner.Last f)
    → d ≡ length w.callers.items → later ≡ steps ++ step_at d w.position ∷ [] → i < most → Told m most later f
going_last m i most steps later w d f going e h l lt G bound g s sound num have point start at =
    let is = m.insts in
    let ok = checked G bound is sound in
    let on = going G bound g s sound num have point start at in
    let o = outcome G is ok g s i steps (kept w m.choices) on (trace_inner.Last f)
    (λ j there. e.each G bound j sound num have there) in
    let r = ends G is on.now f o.0 o.1 o.2 in
    let step = same_step on.now w m.choices d on.same h in
    let n : ℕ = most - suc i in
    moved G is (i + suc n) most s (steps ++ step_of on.now ∷ []) later (ending_of f) (omega (arith, lt))
    (ap (λ z. steps ++ z ∷ []) (sym step) ∙ sym l)
    (on.more (suc n) (step_of on.now ∷ []) (ending_of f) (last n on.now (ending_of f) r))

pub going_before : (m : Found) (i most : ℕ) (steps : List Step) (w : Walker) (f : Ending) → Going m i steps w
    → TurnsTo m w (trace_inner.Before f) → i < most → Told m most steps f
going_before m i most steps w f going e lt G bound g s sound num have point start at =
    let is = m.insts in
    let ok = checked G bound is sound in
    let on = going G bound g s sound num have point start at in
    let o = outcome G is ok g s i steps (kept w m.choices) on (trace_inner.Before f)
    (λ j there. e.each G bound j sound num have there) in
    let r = ends_before G is on.now f o.0 o.1 o.2 in
    let n : ℕ = most - suc i in
    moved G is (i + suc n) most s (steps ++ []) steps (ending_of f) (omega (arith, lt)) (append-nil steps)
    (on.more (suc n) [] (ending_of f) (before n on.now (ending_of f) r))

pub going_end : (m : Found) (i most : ℕ) (steps : List Step) (w : Walker) → Going m i steps w → i ≡ most
    → Told m most steps ending.Limit
going_end m i most steps w going lt G bound g s sound num have point start at =
    let is = m.insts in
    let on = going G bound g s sound num have point start at in
    moved G is (i + 0) most s (steps ++ []) steps machine.Limit (omega (arith, lt)) (append-nil steps)
    (on.more 0 [] machine.Limit (limit on.now))
