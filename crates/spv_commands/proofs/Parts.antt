-- What a writer has got, and how far a run on several files is.
use Rattle.std.proofs.Common.{◌≡◌, ◌≢◌, ◌≤◌, ◌<◌, ◌↔◌, ◌+◌, ◌∙◌, ◌++◌, [], ℕ, List, Bool, true}
use Rattle.std.proofs.Common.{false, IsTrue, Option, Some, None, IfSome, codes, length, take, ap, sym}
use Rattle.std.proofs.Common.{refl, subst, arith, append_assoc, append-nil, length-append, get_or, if◌then◌else◌}
use Rattle.std.specs.Io.KnownBytes.{Appends}
use Rattle.std.proofs.KnownBytes.{Appends-nil, Appends-trans}
use Rattle.std.proofs.Math.Seq.{take-append-add}
use Rattle.std.proofs.lemmas.List.{take-append-le}
use Rattle.spv_table.specs.Table.{Table}
use Rattle.std.specs.Prelude.{Result, Ok, Err, IfErr, IsErrOf, OnOk, is_ok}
use Rattle.spv_words.specs.declared.words.WordError.{WordError}
use Rattle.spv_words.specs.declared.words.WordError.TheVariants.{W1}
use Rattle.spv_commands.specs.Trouble.{BeginsWith, Writes, memory_line}
use Rattle.spv_commands.specs.declared.judging.Judging.{Judging}
use Rattle.spv_commands.specs.Part.{IsPart, Known}
use Rattle.spv_commands.specs.inner.Progress.{HasGot, WritesOn}

pub never : ¬ (IsTrue false)
never e = cc

-- a beginning of what comes behind a text is one of both
pub begun_behind : (old middle new : Option (List ℕ)) (text next : List ℕ) → Appends old middle text
    → IfSome middle (λ xs. BeginsWith next xs new)
    → IfSome old (λ xs. BeginsWith (text ++ next) xs new)
begun_behind None middle new text next a b = tt
begun_behind (Some xs) None new text next a b = absurd a
begun_behind (Some xs) (Some ys) new text next a b =
    let fits = b.fits in
    let front : take (length text + b.count) (text ++ next) ≡ text
    ++ take b.count next = take-append-add text next b.count in
    record {
      count = length text + b.count;
      fits = rw (length-append text next) (omega arith);
      written = b.written ∙ ap Some (rw (a, front) (append_assoc xs text (take b.count next)));
    }

-- a beginning of a text is one of it with what would come behind it
pub begun_before : (old new : Option (List ℕ)) (text next : List ℕ) → IfSome old (λ xs. BeginsWith text xs new)
    → IfSome old (λ xs. BeginsWith (text ++ next) xs new)
begun_before None new text next b = tt
begun_before (Some xs) new text next b =
    let fits = b.fits in
    let front : take b.count (text ++ next) ≡ take b.count text = take-append-le b.count text next fits in
    record {
      count = b.count;
      fits = rw (length-append text next) (omega arith);
      written = rw front b.written;
    }

-- a writer that has got a text gets one more
pub got_more : (sound : Bool) (text next : List ℕ) (old middle new : Option (List ℕ)) (before between after : ℕ)
    → HasGot true text old middle before between
    → Writes next middle new between after → IsTrue sound ↔ (after ≡ between)
    → HasGot sound (text ++ next) old new before after
got_more sound text next old middle new before between after h w f =
    let same : between ≡ before = h.steady.0 refl in
    record {
      writes = record {
        whole = λ q. Appends-trans old middle new text next (h.writes.whole same) (w.whole (q ∙ sym same));
        begun = begun_behind old middle new text next (h.writes.whole same) w.begun;
      };
      steady = (λ y. f.0 y ∙ same, λ q. f.1 (q ∙ sym same));
    }

-- one that has failed gets no more
pub got_no_more : (text next : List ℕ) (old new : Option (List ℕ)) (before after : ℕ)
    → HasGot false text old new before after
    → HasGot false (text ++ next) old new before after
got_no_more text next old new before after h = record {
  writes = record { whole = λ q. absurd (never (h.steady.1 q)); begun = begun_before old new text next h.writes.begun };
  steady = h.steady;
}

-- one that has got nothing yet
pub got_nothing : (old : Option (List ℕ)) (before : ℕ) → HasGot true [] old old before before
got_nothing old before = record {
  writes = record { whole = λ q. Appends-nil old; begun = begun_nothing old };
  steady = (λ y. refl, λ q. refl);
}
  where
    begun_nothing : (old : Option (List ℕ)) → IfSome old (λ xs. BeginsWith [] xs old)
    begun_nothing None = tt
    begun_nothing (Some xs) = record { count = 0; fits = omega arith; written = ap Some (sym (append-nil xs)) }

-- one text and then another
pub on_and_on : (sound between heard : Bool) (text next : List ℕ) (here middle there : Option (List ℕ))
    (failed fails failing : ℕ)
    → WritesOn sound text between here middle failed fails → WritesOn between next heard middle there fails failing
    → WritesOn sound (text ++ next) heard here there failed failing
on_and_on sound between heard text next here middle there failed fails failing v w = λ so_far old before h.
    subst (λ (all : List ℕ). HasGot heard all old there before failing) (append_assoc so_far text next)
    (w (so_far ++ text) old before (v so_far old before h))

-- what a writer that held nothing has got, if no write failed
pub got_whole : (sound : Bool) (text old new : List ℕ) (before after : ℕ) → sound ≡ true → old ≡ []
    → HasGot sound text (Some old) (Some new) before after → new ≡ text
got_whole sound text old new before after s e h =
    h.writes.whole (h.steady.0 s) ∙ ap (λ (front : List ℕ). front ++ text) e

-- nothing is told of a file that was judged
pub nothing_on : (sound : Bool) (here : Option (List ℕ)) (failed : ℕ) → WritesOn sound [] sound here here failed failed
nothing_on sound here failed =
    λ so_far old before h. subst (λ (all : List ℕ). HasGot sound all old here before failed) (sym (append-nil so_far)) h

begun_as : (old new : Option (List ℕ)) (text : List ℕ)
    → IfSome old (λ xs. (n : ℕ) × (n ≤ length text) × (new ≡ Some (xs ++ take n text)))
    → IfSome old (λ xs. BeginsWith text xs new)
begun_as None new text b = tt
begun_as (Some xs) new text b = record { count = b.0; fits = b.1; written = b.2 }

-- what a call that writes all of a text says
pub written : {T : Type 0} (r : Result T WordError) (text : List ℕ) (old new : Option (List ℕ)) (before after : ℕ)
    → OnOk r (Appends old new text)
    → IfSome old (λ xs. (n : ℕ) × (n ≤ length text) × (new ≡ Some (xs ++ take n text))) → IfErr r (λ e. e ≡ W1)
    → (after ≢ before) ↔ IsErrOf r W1
    → OnOk r (after ≡ before) → Writes text old new before after × (IsTrue (is_ok r) ↔ (after ≡ before))
written (Ok u) text old new before after all begun only count steady =
    (record { whole = λ q. all; begun = begun_as old new text begun }, (λ y. steady, λ q. refl))
written (Err e) text old new before after all begun only count steady =
    let differ = count.1 (ap Err only) in (
      record { whole = λ q. absurd (differ q); begun = begun_as old new text begun },
      (λ y. absurd (never y), λ q. absurd (differ q)),
    )

-- ---- the worked examples

pub not_judged : (G : Table) (how : Judging) (name line : List ℕ) (status : ℕ) → status ≡ 0
    → ¬ (IsPart G how name (Some None) line [] status)
not_judged G how name line status z (IsPart.judged bytes valid k d e s) = cc
not_judged G how name line status z (IsPart.unread k o e s) = let q : 0 ≡ 2 = sym z ∙ s in cc
not_judged G how name line status z (IsPart.starved o e s) = let q : 0 ≡ 2 = sym z ∙ s in cc

abbrev first_byte : List ℕ → ℕ
first_byte xs = get_or xs 0 0

apart : (a b : ℕ) → a < b → ¬ (a ≡ b)
apart a b h e = omega (arith, h, e)

pub always_named : (G : Table) (how : Judging) (known : Known) (out err : List ℕ) (status : ℕ) → err ≡ memory_line
    → ¬ (IsPart G how (codes "a") known out err status)
always_named G how known out err status m (IsPart.judged bytes valid k d e s) =
    apart 0 101 (omega arith) (ap first_byte (sym e ∙ m))
always_named G how known out err status m (IsPart.unread k o e s) =
    apart 97 101 (omega arith) (ap first_byte (sym e ∙ m))
always_named G how known out err status m (IsPart.starved o e s) =
    apart 97 101 (omega arith) (ap first_byte (sym e ∙ m))

-- ---- the status of a module

pub valid_status : (valid : Bool) (n : ℕ) → n ≡ 0 → valid ≡ true → n ≡ (if valid then 0 else 1)
valid_status true n e v = e
valid_status false n e v = cc

pub fault_status : (valid : Bool) (n : ℕ) → n ≡ 1 → valid ≡ false → n ≡ (if valid then 0 else 1)
fault_status true n e v = cc
fault_status false n e v = e
