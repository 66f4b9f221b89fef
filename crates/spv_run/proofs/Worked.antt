-- The run of a function that only returns.
use Rattle.std.proofs.Common.{◌≡◌, ◌∙◌, ◌++◌, append-nil, ℕ, zero, suc, List, [], ◌∷◌, Bool, true, false, not, ◌&&◌}
use Rattle.std.proofs.Common.{Some, refl, sym, ap, subst, arith}
use Rattle.std.specs.Prelude.{slice_get}
use Rattle.std.proofs.lemmas.Option.{none-some, same_Some}
use Rattle.spv_table.specs.Table.{Table}
use Rattle.spv_module.specs.Operand.{Plain, PlainInst, Result}
use Rattle.spv_module.specs.Operand as operand
use Rattle.spv_layout.specs.declared.class.Class.{Class}
use Rattle.spv_layout.specs.declared.form.Form.{Form}
use Rattle.spv_layout.specs.declared.form.Form.TheVariants as form
use Rattle.spv_layout.specs.declared.form.Role.TheVariants as role
use Rattle.spv_layout.specs.Row.{closed}
use Rattle.spv_layout.specs.inner.Row.{row}
use Rattle.spv_layout.specs.Rows.{row_of}
use Rattle.spv_layout.specs.Shape.{Ends, role_of, IsUse}
use Rattle.spv_type_forms.specs.Example.{inst}
use Rattle.spv_run.specs.Act.{Label, Return, FunctionEnd, act_of}
use Rattle.spv_run.specs.At.{act_at, result_at, type_at}
use Rattle.spv_run.specs.Head.{end, IsDefined, IsDeclared}
use Rattle.spv_run.specs.State.{Ending, Finished, Limit, Stuck, State, Outcome, Goes, Last, Before}
use Rattle.spv_run.specs.Machine.{ReadsOthers, Does, step, no_choice, bad_choice}
use Rattle.spv_run.specs.Row.{Row}
use Rattle.spv_run.specs.Run.{IsStart, Run, limit, next, last, stuck}
use Rattle.spv_run.specs.declared.parts.Step.{Step}
use Rattle.spv_run.specs.Example.{lone_before, lone, unended, standing, step_at}
use Rattle.spv_flow.specs.calls.Broken.{Broken}
use Rattle.spv_flow.specs.calls.Calls.{IsEntryFunction}
use Rattle.spv_flow.specs.calls.Example.{entry, function, functions, looped}
use Rattle.spv_module.specs.declared.fault.Rule.TheVariants.{G1}
use Rattle.spv_module.specs.declared.opcode.TheConstants as opcode
use Rattle.spv_run.specs.Entry.{IsEntryId}
use Rattle.spv_run.specs.Promise.{NeverGetsStuck}
use Rattle.spv_run.specs.Sound.{KeepsRules}
use Rattle.spv_run.proofs.Shapes.{row_248, row_253}
use Rattle.spv_run.proofs.Uses.{forms_of}

-- Rows without the role any.

any_form : Form → Bool
any_form (form.Id role.Any) = true
any_form form.Other = true
any_form _ = false

free : List Form → Bool
free [] = true
free (g ∷ gs) = not (any_form g) && free gs

role_free : (g : Form) (o : Plain) → not (any_form g) ≡ true → role_of g o ≡ Some role.Any → ⊥
unfolding any_form
role_free (form.Id role.Any) o h r = cc
role_free form.Other o h r = cc
role_free (form.Id role.OfType) o h r = cc
role_free (form.Id role.Value) o h r = cc
role_free (form.Id role.Function) o h r = cc
role_free (form.Id role.Text) o h r = cc
role_free (form.Id role.Set) o h r = cc
role_free (form.Id role.Label) o h r = cc
role_free (form.Id role.Global) o h r = cc
role_free form.OfType o h r = cc
role_free form.Unseen (operand.Argument x) h r = cc
role_free form.Unseen _ h r = cc
role_free _ o h r = cc

both : (a b : Bool) → (a && b) ≡ true → (a ≡ true) × (b ≡ true)
both true b h = (refl, h)
both false b h = cc

free_at : (gs : List Form) (k : ℕ) (g : Form) → free gs ≡ true → slice_get gs k ≡ Some g → not (any_form g) ≡ true
unfolding free
free_at [] k g h e = absurd (none-some g e)
free_at (f ∷ gs) zero g h e =
    ap (λ x. not (any_form x)) (sym (same_Some f g e)) ∙ (both (not (any_form f)) (free gs) h).0
free_at (f ∷ gs) (suc k) g h e = free_at gs k g (both (not (any_form f)) (free gs) h).1 e

closed_rest : (rest : List Form) → Ends closed rest → rest ≡ []
closed_rest _ Ends.nothing = refl

no_any : (G : Table) (i : PlainInst) (a b : ℕ) (c : Class) (fs : List Form) (k x : ℕ)
    → row_of i.opcode ≡ Some (row a b c fs closed) → free fs ≡ true → ¬ (IsUse G i k x role.Any)
no_any G i a b c fs k x e h u =
    let f = forms_of G i (row a b c fs closed) (record { forms = u.forms; has = u.has }) e in
    let same : u.forms ≡ fs = f.same ∙ (ap (λ gs. fs ++ gs) (closed_rest f.rest f.ending) ∙ append-nil fs) in
    role_free u.form u.operand (free_at fs k u.form h (ap (λ gs. slice_get gs k) (sym same) ∙ u.form_at)) u.role

label_free : free (form.Result ∷ []) ≡ true
unfolding free any_form
label_free = refl

return_free : free [] ≡ true
unfolding free
return_free = refl

none_at_label : (G : Table) (is : List PlainInst) → slice_get is 3 ≡ Some (inst opcode.LABEL (Result 4 ∷ []))
    → ReadsOthers G is (standing 3).top
none_at_label G is at k x used local =
    let same : inst opcode.LABEL (Result 4 ∷ []) ≡ used.inst = same_Some (inst opcode.LABEL (Result 4 ∷ [])) used.inst
    (sym at ∙ used.there) in
    absurd (no_any G (inst opcode.LABEL (Result 4 ∷ [])) 248 248 _ _ k x row_248 label_free
    (subst (λ (i : PlainInst). IsUse G i k x role.Any) (sym same) used.used))

none_at_return : (G : Table) (is : List PlainInst) → slice_get is 4 ≡ Some (inst opcode.RETURN [])
    → ReadsOthers G is (standing 4).top
none_at_return G is at k x used local =
    let same : inst opcode.RETURN [] ≡ used.inst = same_Some (inst opcode.RETURN []) used.inst (sym at ∙ used.there) in
    absurd (no_any G (inst opcode.RETURN []) 253 253 _ _ k x row_253 return_free
    (subst (λ (i : PlainInst). IsUse G i k x role.Any) (sym same) used.used))

pub defined : (rest : List PlainInst) → IsDefined (lone_before rest) 2 3 []
unfolding act_at act_of
defined rest = record { function = refl; head = end; entry = refl }

pub undeclared : ¬ (IsDeclared lone 2 3 [])
unfolding act_at act_of
undeclared d = let e : Some Label ≡ Some FunctionEnd = d.over in let w = same_Some Label FunctionEnd e in cc

pub at_label : (G : Table) (rest : List PlainInst) → Does G (lone_before rest) (standing 3) (Goes (standing 4))
unfolding act_of result_at
at_label G rest = step (inst opcode.LABEL (Result 4 ∷ [])) [] [] refl refl tt
    (none_at_label G (lone_before rest) refl) tt refl

-- The function's type says that it returns void, as an OpReturn asks.
abbrev pub ReturnsVoid : List PlainInst → Type 0
ReturnsVoid rest = Row (lone_before rest) 2 4 (inst opcode.RETURN []) Return []

pub alone_void : ReturnsVoid []
alone_void = refl

pub entered_void : ReturnsVoid (entry 3 ∷ [])
entered_void = refl

pub at_return : (G : Table) (rest : List PlainInst) → ReturnsVoid rest
    → Does G (lone_before rest) (standing 4) (Last Finished)
unfolding act_of type_at
at_return G rest void =
    step (inst opcode.RETURN []) [] [] refl refl tt (none_at_return G (lone_before rest) refl) void (1, refl, refl)

pub at_end : (G : Table) (o : Outcome) → ¬ (Does G lone (standing 5) o)
unfolding act_of
at_end G o (step i xs tags at v r others row m) =
    let same : inst opcode.FUNCTION_END [] ≡ i = same_Some (inst opcode.FUNCTION_END []) i at in
    absurd (rw (← same) at m)
at_end G o (no_choice i c ls at e empty h) =
    let same : inst opcode.FUNCTION_END [] ≡ i = same_Some (inst opcode.FUNCTION_END []) i at in
    let e' = rw (← same) at e in cc
at_end G o (bad_choice i c k ls left at e some out h) =
    let same : inst opcode.FUNCTION_END [] ≡ i = same_Some (inst opcode.FUNCTION_END []) i at in
    let e' = rw (← same) at e in cc

pub whole : (G : Table) (rest : List PlainInst) → ReturnsVoid rest
    → Run G (lone_before rest) 9 (standing 3) (step_at 0 3 ∷ step_at 0 4 ∷ []) Finished
whole G rest void = next 8 (standing 3) (standing 4) (step_at 0 4 ∷ []) Finished (at_label G rest)
    (last 7 (standing 4) Finished (at_return G rest void))

pub short : (G : Table) → Run G lone 1 (standing 3) (step_at 0 3 ∷ []) Limit
short G = next 0 (standing 3) (standing 4) [] Limit (at_label G []) (limit (standing 4))

pub at_the_end : (G : Table) → Run G lone 9 (standing 5) [] Stuck
at_the_end G = stuck 8 (standing 5) (at_end G)

never : (G : Table) (e : Ending) → ¬ (Does G lone (standing 3) (Before e))
unfolding act_of
never G e (step i xs tags at v r others row m) =
    let same : inst opcode.LABEL (Result 4 ∷ []) ≡ i = same_Some (inst opcode.LABEL (Result 4 ∷ [])) i at in
    let m' = rw (← same) at m in
    cc
never G e (no_choice i c ls at q empty h) =
    let same : inst opcode.LABEL (Result 4 ∷ []) ≡ i = same_Some (inst opcode.LABEL (Result 4 ∷ [])) i at in
    let q' = rw (← same) at q in cc
never G e (bad_choice i c k ls left at q some out h) =
    let same : inst opcode.LABEL (Result 4 ∷ []) ≡ i = same_Some (inst opcode.LABEL (Result 4 ∷ [])) i at in
    let q' = rw (← same) at q in cc

sooner : (G : Table) (n : ℕ) (xs : List Step) (e : Ending) → Run G lone n (standing 3) xs e → n ≡ 9 → xs ≡ [] → ⊥
sooner G _ _ _ (limit s) h g = absurd (omega (arith, h))
sooner G _ _ _ (Run.before n s e d) h g = never G e d
sooner G _ _ _ (stuck n s none) h g = none (Goes (standing 4)) (at_label G [])
sooner G _ _ _ _ h g = cc

pub not_nothing : (G : Table) (e : Ending) → ¬ (Run G lone 9 (standing 3) [] e)
not_nothing G e r = sooner G 9 [] e r refl refl

-- Where runs begin.

pub starts : (rest : List PlainInst) → IsStart (lone_before rest) 2 [] (standing 3)
starts rest = record { entry = 3; parameters = []; defined = defined rest; start = refl }

pub starts_before : ¬ (IsStart lone 2 [] (standing 4))
unfolding act_at act_of
starts_before s =
    let e : 4 ≡ s.entry = ap (λ (t : State). t.top.position) s.start in
    let h : act_at lone 4 ≡ Some Label = ap (act_at lone) e ∙ s.defined.entry in
    let w = same_Some Return Label h in
    cc

pub entry_id : IsEntryId looped 1
entry_id = record { place = 0; inst = entry 1; there = refl; opcode = refl; named = refl }

pub no_entry_id : ((f : ℕ) → ¬ (IsEntryFunction functions f)) → ¬ (IsEntryId functions 1)
no_entry_id none e = none 0 (record {
  place = e.place;
  inst = e.inst;
  there = e.there;
  opcode = e.opcode;
  id = 1;
  named = e.named;
  function = record { inst = function 1; there = refl; result = refl };
})

-- A block without a terminator.

unended_label : (G : Table) → Does G unended (standing 3) (Goes (standing 4))
unfolding act_of result_at
unended_label G = step (inst opcode.LABEL (Result 4 ∷ [])) [] [] refl refl tt (none_at_label G unended refl) tt refl

unended_over : (G : Table) (o : Outcome) → ¬ (Does G unended (standing 4) o)
unfolding act_of
unended_over G o (step i xs tags at v r others row m) =
    let same : inst opcode.FUNCTION_END [] ≡ i = same_Some (inst opcode.FUNCTION_END []) i at in
    absurd (rw (← same) at m)
unended_over G o (no_choice i c ls at e empty h) =
    let same : inst opcode.FUNCTION_END [] ≡ i = same_Some (inst opcode.FUNCTION_END []) i at in
    let e' = rw (← same) at e in cc
unended_over G o (bad_choice i c k ls left at e some out h) =
    let same : inst opcode.FUNCTION_END [] ≡ i = same_Some (inst opcode.FUNCTION_END []) i at in
    let e' = rw (← same) at e in cc

unended_start : IsStart unended 2 [] (standing 3)
unfolding act_at act_of
unended_start = record {
  entry = 3;
  parameters = [];
  defined = record { function = refl; head = end; entry = refl };
  start = refl;
}

pub gets_stuck : (G : Table) → ¬ (NeverGetsStuck G unended 2 [])
gets_stuck G never =
    never.free (standing 3) 9 (step_at 0 3 ∷ []) Stuck unended_start
    (next 8 (standing 3) (standing 4) [] Stuck (unended_label G) (stuck 7 (standing 4) (unended_over G))) refl

pub not_sound : (G : Table) (bound : ℕ) → Broken looped G1 8 → ¬ (KeepsRules G bound looped)
not_sound G bound b sound = sound.calls G1 8 refl b
