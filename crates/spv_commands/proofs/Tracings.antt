-- What is traced of bytes that were read.
use Rattle.std.proofs.Common.{◌≡◌, ◌⊎◌, ◌++◌, ℕ, List, [], ◌∷◌, Some, Ok, Bool, true, false, refl, inl, inr, codes}
use Rattle.std.proofs.Common.{lit≤}
use Rattle.spv_words.specs.Header.{IsFirstBroken, IsModule}
use Rattle.spv_words.specs.declared.words.Order.{Order}
use Rattle.spv_words.specs.declared.words.WordError.{WordError}
use Rattle.spv_words.specs.declared.words.WordError.TheVariants as word
use Rattle.spv_table.specs.Table.{Table}
use Rattle.spv_module.specs.Operand.{PlainInst}
use Rattle.spv_extended.specs.declared.reach.Reach.{Reach}
use Rattle.spv_run.specs.Entry.{RefusesEntry}
use Rattle.spv_run.specs.declared.parts.Trace.{Trace}
use Rattle.spv_run.specs.declared.parts.TraceError.{TraceError}
use Rattle.spv_run.specs.declared.parts.TraceError.TheVariants.{NoEntry, Memory}
use Rattle.spv_check.specs.Answer.{IsAnswer}
use Rattle.spv_check.specs.Checked.{IsChecked}
use Rattle.spv_check.specs.Program.{Program}
use Rattle.spv_run.specs.Tracing.{IsRunOf}
use Rattle.spv_check.specs.Verdict.{IsVerdict, fault_line, line_end, refused_line}
use Rattle.spv_check.specs.declared.checked.Verdict.{Verdict}
use Rattle.spv_check.specs.declared.checked.Verdict.TheVariants.{Valid, Fault}
use Rattle.spv_check.proofs.Checks.{fault_judged}
use Rattle.spv_check.proofs.Verdicts.{fault_is_not_valid, refused_is_not_valid}
use Rattle.spv_module.specs.declared.fault.Fault as fault
use Rattle.spv_names.specs.Chosen.{IsChosen}
use Rattle.spv_names.specs.declared.chosen.Chosen.{Chosen}
use Rattle.spv_commands.specs.Trace.{BeginsTracing, HasNoEntry, HasSeveral, IsProgram, IsTracing, Traces, judged, traced}
use Rattle.spv_commands.specs.Trace.{trace_text}
use Rattle.spv_commands.specs.inner.Traced.{WhyNoRun, WhyNotChosen, traced_stop}
use Rattle.spv_commands.specs.declared.trouble.Trouble.{Trouble}
use Rattle.spv_commands.specs.declared.trouble.Trouble.TheVariants as trouble

refused_line_written : (G : Table) (reach : Reach) (function : Chosen) (choices : List ℕ) (limit : ℕ) (bytes : List ℕ)
    (code : WordError) → IsFirstBroken code bytes
    → IsTracing G reach function choices limit bytes (refused_line code) false
refused_line_written G reach function choices limit bytes code h =
    judged (refused_line code) (IsVerdict.refused code h) (λ e. refused_is_not_valid code e)

-- the line of words that are no valid module
pub fault_traced : (G : Table) (reach : Reach) (function : Chosen) (choices : List ℕ) (limit : ℕ) (bytes words : List ℕ)
    (order : Order) (v : Verdict) (f : fault.Fault) → v ≡ Fault f
    → IsModule order bytes words → IsAnswer G reach words v
    → IsTracing G reach function choices limit bytes (fault_line f.rule f.inst f.word) false
fault_traced G reach function choices limit bytes words order v f e h a =
    judged (fault_line f.rule f.inst f.word) (fault_judged G reach bytes words order v f e h a)
    (λ q. fault_is_not_valid f.rule f.inst f.word q)

-- a module that was checked
pub checked_by : (G : Table) (reach : Reach) (words : List ℕ) (v : Verdict) (p : Program) → v ≡ Valid p
    → IsAnswer G reach words v → IsChecked G reach words p
checked_by G reach words v p e a = rw e at a

pub program_of : (G : Table) (reach : Reach) (bytes words : List ℕ) (order : Order) (p : Program)
    → IsModule order bytes words → IsChecked G reach words p → IsProgram G reach bytes p
program_of G reach bytes words order p h c = record { words = words; order = order; is_module = h; checked = c }

-- its run, and that there is none
pub run_traced : (G : Table) (reach : Reach) (function : Chosen) (choices : List ℕ) (limit : ℕ) (bytes words : List ℕ)
    (order : Order) (p : Program) (id : ℕ) (t : Trace) → IsModule order bytes words → IsChecked G reach words p
    → IsChosen p.insts function (Ok id) → IsRunOf G p id choices limit t
    → IsTracing G reach function choices limit bytes (trace_text t.steps.items t.ending) true
run_traced G reach function choices limit bytes words order p id t h c k r =
    traced p id t (program_of G reach bytes words order p h c) k r

-- why it has none
pub unchosen : (is : List PlainInst) (function : Chosen) (t : Trouble) → WhyNotChosen is function t
    → WhyNoRun is function t
unchosen is function trouble.NoEntry k = inl k
unchosen is function trouble.SeveralFunctions k = k
unchosen is function trouble.NoFunction k = k
unchosen is function trouble.Use k = k
unchosen is function trouble.File k = k
unchosen is function trouble.NotText k = k
unchosen is function trouble.Memory k = tt
unchosen is function (trouble.Grammar e) k = k

pub run_stopped : (is : List PlainInst) (function : Chosen) (id : ℕ) (e : TraceError) (t : Trouble)
    → IsChosen is function (Ok id) → RefusesEntry is id e → t ≡ traced_stop e → WhyNoRun is function t
run_stopped is function id NoEntry t k r q = rw q (inr (id, k, r))
run_stopped is function id Memory t k r q = rw q tt

-- a function that has no run
pub lacks_id : (G : Table) (reach : Reach) (function : Chosen) (bytes words : List ℕ) (order : Order) (p : Program)
    (t : Trouble) → IsModule order bytes words → IsChecked G reach words p
    → WhyNoRun p.insts function t → t ≡ trouble.NoEntry → HasNoEntry G reach bytes function
lacks_id G reach function bytes words order p trouble.NoEntry h c k q =
    record { program = p; valid = program_of G reach bytes words order p h c; none = k }
lacks_id G reach function bytes words order p trouble.SeveralFunctions h c k q = cc
lacks_id G reach function bytes words order p trouble.NoFunction h c k q = absurd k
lacks_id G reach function bytes words order p trouble.Use h c k q = absurd k
lacks_id G reach function bytes words order p trouble.File h c k q = absurd k
lacks_id G reach function bytes words order p trouble.NotText h c k q = absurd k
lacks_id G reach function bytes words order p trouble.Memory h c k q = cc
lacks_id G reach function bytes words order p (trouble.Grammar e) h c k q = absurd k

pub has_several : (G : Table) (reach : Reach) (function : Chosen) (bytes words : List ℕ) (order : Order) (p : Program)
    (t : Trouble) → IsModule order bytes words → IsChecked G reach words p
    → WhyNoRun p.insts function t → t ≡ trouble.SeveralFunctions → HasSeveral G reach bytes function
has_several G reach function bytes words order p trouble.SeveralFunctions h c k q =
    record { program = p; valid = program_of G reach bytes words order p h c; several = k }
has_several G reach function bytes words order p trouble.NoEntry h c k q = cc
has_several G reach function bytes words order p trouble.NoFunction h c k q = absurd k
has_several G reach function bytes words order p trouble.Use h c k q = absurd k
has_several G reach function bytes words order p trouble.File h c k q = absurd k
has_several G reach function bytes words order p trouble.NotText h c k q = absurd k
has_several G reach function bytes words order p trouble.Memory h c k q = cc
has_several G reach function bytes words order p (trouble.Grammar e) h c k q = absurd k

pub only_two : (is : List PlainInst) (function : Chosen) (t : Trouble) → WhyNoRun is function t
    → (t ≡ trouble.NoEntry) ⊎ (t ≡ trouble.SeveralFunctions) ⊎ (t ≡ trouble.Memory)
only_two is function trouble.NoEntry k = inl refl
only_two is function trouble.SeveralFunctions k = inr (inl refl)
only_two is function trouble.NoFunction k = absurd k
only_two is function trouble.Use k = absurd k
only_two is function trouble.File k = absurd k
only_two is function trouble.NotText k = absurd k
only_two is function trouble.Memory k = inr (inr refl)
only_two is function (trouble.Grammar e) k = absurd k

-- three bytes are no module, and have no run
pub short_traced : (G : Table) (reach : Reach) (function : Chosen) (choices : List ℕ) (limit : ℕ)
    → IsFirstBroken word.W2 (1 ∷ 2 ∷ 3 ∷ [])
    → Traces G reach function choices limit (1 ∷ 2 ∷ 3 ∷ []) (9 ∷ []) (Some (9 ∷ codes "fault W2" ++ line_end)) false
short_traced G reach function choices limit h =
    record {
      output = refused_line word.W2;
      tracing = refused_line_written G reach function choices limit (1 ∷ 2 ∷ 3 ∷ []) word.W2 h;
      written = refl;
    }

pub short_begun_tracing : (G : Table) (reach : Reach) (function : Chosen) (choices : List ℕ) (limit : ℕ)
    → IsFirstBroken word.W2 (1 ∷ 2 ∷ 3 ∷ [])
    → BeginsTracing G reach function choices limit (1 ∷ 2 ∷ 3 ∷ []) (9 ∷ []) (Some (9 ∷ codes "fault"))
short_begun_tracing G reach function choices limit h =
    record {
      output = refused_line word.W2;
      answer = false;
      tracing = refused_line_written G reach function choices limit (1 ∷ 2 ∷ 3 ∷ []) word.W2 h;
      count = 5;
      fits =
          lit≤ tt;
      written = refl;
    }

pub no_run : (G : Table) (reach : Reach) (function : Chosen) (choices : List ℕ) (limit : ℕ) (bytes output : List ℕ)
    (answer : Bool) → answer ≡ true → ((o : Order) (ws : List ℕ) → ¬ (IsModule o bytes ws))
    → ¬ (IsTracing G reach function choices limit bytes output answer)
no_run G reach function choices limit bytes _ _ e never (IsTracing.judged line v n) = cc
no_run G reach function choices limit bytes _ _ e never (IsTracing.traced p id t h k r) = never h.order h.words h.is_module
