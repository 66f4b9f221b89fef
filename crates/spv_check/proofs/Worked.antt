-- Worked examples of verdict lines.
use Rattle.std.proofs.Common.{◌≡◌, ◌++◌, ◌∷◌, [], ℕ, zero, suc, List, Some, false, codes, take, slice_index, ap, refl}
use Rattle.std.proofs.Common.{arith, lit≤}
use Rattle.std.proofs.lemmas.Fmt.{decimal_digit}
use Rattle.spv_words.specs.Header.{IsFirstBroken, IsModule}
use Rattle.spv_words.specs.declared.words.Order.TheVariants.{Big}
use Rattle.spv_words.specs.declared.words.WordError.TheVariants.{W2}
use Rattle.spv_table.specs.Table.{Table}
use Rattle.spv_module.specs.Instruction.{end}
use Rattle.spv_module.specs.declared.profile.Profile as declared
use Rattle.spv_module.specs.declared.fault.Rule.TheVariants.{I7, L2}
use Rattle.spv_module.specs.Operand.{PlainInst}
use Rattle.spv_extended.specs.declared.reach.Reach.{Reach}
use Rattle.spv_extended.specs.declared.reach.Reach.TheVariants.{Profile, Extended, OpenCl}
use Rattle.spv_extended.specs.Reach.{profile_of}
use Rattle.spv_layout.specs.DeadPlace.{IsDeadPlace}
use Rattle.spv_layout.specs.declared.state.State.TheVariants as at
use Rattle.spv_layout.proofs.Brokens.{dead_first}
use Rattle.spv_layout.proofs.Layouts.{leads_begin, leads_first, leads_no_end}
use Rattle.spv_layout.proofs.Misfits.{fit_unbroken}
use Rattle.std.specs.Prelude.{slice_get}
use Rattle.std.proofs.lemmas.Option.{slice_get_within}
use Rattle.spv_check.specs.Broken.{IsFirstOfAll}
use Rattle.spv_check.proofs.Firsts.{layout_first}
use Rattle.spv_check.specs.Reading.{IsReading}
use Rattle.spv_check.specs.Stream.{Begins, TellsVerdict}
use Rattle.spv_check.specs.Verdict.{IsVerdict, refused, unsound, fault_line, line_end, refused_line, valid_line}
use Rattle.spv_check.proofs.Verdicts.{refused_is_not_valid}

pub short_bytes : (G : Table) (reach : Reach) → IsFirstBroken W2 (1 ∷ 2 ∷ 3 ∷ [])
    → IsVerdict G reach (1 ∷ 2 ∷ 3 ∷ []) (codes "fault W2" ++ line_end)
short_bytes G reach h = refused W2 h

pub short_told : (G : Table) (reach : Reach) → IsFirstBroken W2 (1 ∷ 2 ∷ 3 ∷ [])
    → TellsVerdict G reach (1 ∷ 2 ∷ 3 ∷ []) (9 ∷ []) (Some (9 ∷ codes "fault W2" ++ line_end)) false
short_told G reach h =
    record {
      line = refused_line W2;
      verdict = refused W2 h;
      written = refl;
      answered = (λ b. cc, λ e. absurd (refused_is_not_valid W2 e));
    }

pub short_begun : (G : Table) (reach : Reach) → IsFirstBroken W2 (1 ∷ 2 ∷ 3 ∷ [])
    → Begins G reach (1 ∷ 2 ∷ 3 ∷ []) (9 ∷ []) (Some (9 ∷ codes "fault"))
short_begun G reach h =
    record { line = refused_line W2; verdict = refused W2 h; count = 5; fits = lit≤ tt; written = refl }

pub never_valid : (G : Table) (reach : Reach) (bytes line : List ℕ) → (line ≡ valid_line) → IsFirstBroken W2 bytes
    → ((one other : List ℕ) → IsVerdict G reach bytes one → IsVerdict G reach bytes other → one ≡ other)
    → ¬ (IsVerdict G reach bytes line)
never_valid G reach bytes line e h law v = let w = refused W2 h in refused_is_not_valid W2 (rw e at (law _ line w v))

-- a list without instructions begins a module and is none
no_instructions : (p : declared.Profile) → IsDeadPlace p [] L2 0
no_instructions p = IsDeadPlace.unfinished [] (leads_begin [] at.Capabilities leads_first)
    (leads_no_end [] at.Capabilities refl leads_first)

none_there : (n : ℕ) (i : PlainInst) → ¬ (slice_get [] n ≡ Some i)
none_there n i h = let l = slice_get_within [] n i h in absurd (omega arith)

unfinished_first : (G : Table) (reach : Reach) (bound : ℕ) → IsFirstOfAll G reach bound [] L2 0
unfinished_first G reach bound =
    layout_first G reach bound [] L2 0 (fit_unbroken (profile_of reach) G [] (λ n i h. absurd (none_there n i h)))
    (dead_first (profile_of reach) G [] L2 0 (no_instructions (profile_of reach)))

-- no words are the reading of no instructions
nothing_read : (G : Table) (reach : Reach) → IsReading G reach [] []
nothing_read G Profile = record { spelled = []; listing = end []; seen = refl }
nothing_read G Extended = record { spelled = []; listing = end []; seen = refl }
nothing_read G (OpenCl minor) = record { spelled = []; listing = end []; seen = refl }

pub header_alone : (G : Table) (reach : Reach) (bytes : List ℕ)
    → IsModule Big bytes (119734787 ∷ 67072 ∷ 7 ∷ 5 ∷ 0 ∷ []) → IsVerdict G reach bytes (fault_line L2 0 5)
header_alone G reach bytes h =
    unsound (119734787 ∷ 67072 ∷ 7 ∷ 5 ∷ 0 ∷ []) Big [] L2 0 h (nothing_read G reach) (unfinished_first G reach 5)

pub fault_text : fault_line I7 0 9 ≡ codes "fault I7 inst 0 word 9" ++ line_end
fault_text = rw (decimal_digit 0 (omega arith), decimal_digit 9 (omega arith)) refl

-- a list with another head is no front
pub other_front : (n x y : ℕ) (xs ys : List ℕ) → ¬ (y ≡ x) → ¬ (y ∷ ys ≡ take n (x ∷ xs))
other_front zero x y xs ys d e = cc
other_front (suc n) x y xs ys d e = d (ap (λ (l : List ℕ). slice_index l 0) e)

-- three bytes, whose line is known, have not begun as a valid module
pub not_begun : (G : Table) (reach : Reach) (bytes line : List ℕ)
    → ((other : List ℕ) → IsVerdict G reach bytes other → other ≡ 102 ∷ line)
    → ¬ (Begins G reach bytes [] (Some (codes "valid")))
not_begun G reach bytes line one b =
    let w = b.written in
    let e : codes "valid" ≡ take b.count b.line = cc in
    let q : b.line ≡ 102 ∷ line = one b.line b.verdict in
    other_front b.count 102 118 line (codes "alid") (λ h. omega arith) (rw q at e)
