-- What is written for people of bytes that were read.
use Rattle.std.proofs.Common.{sum_by, ◌+◌, ◌-◌, ◌≡◌, ◌↔◌, ◌≤◌, ◌<◌, ◌++◌, ℕ, List, [], ◌∷◌, Option, Some, None, Result, Err}
use Rattle.std.proofs.Common.{IfSome, IfOk, IsErrOf, Bool, IsTrue, true, false, length, take, drop, ap, refl, subst}
use Rattle.std.proofs.Common.{codes, arith, lit≤}
use Rattle.std.specs.Io.KnownBytes.{Appends}
use Rattle.spv_words.specs.Header.{IsFirstBroken, IsModule, RefusesBytes}
use Rattle.spv_words.specs.declared.words.Order.{Order}
use Rattle.spv_words.specs.declared.words.WordError.{WordError}
use Rattle.spv_words.specs.declared.words.WordError.TheVariants as word
use Rattle.spv_table.specs.Table.{Table}
use Rattle.spv_module.specs.Operand.{PlainInst}
use Rattle.spv_module.specs.Instruction.{IsListing}
use Rattle.spv_module.specs.declared.fault.Rule.{Rule}
use Rattle.spv_module.specs.declared.fault.Rule.TheVariants as rule
use Rattle.spv_extended.specs.declared.reach.Reach.{Reach}
use Rattle.spv_layout.specs.First.{stage_of}
use Rattle.spv_layout.specs.Stage.{of_layout}
use Rattle.spv_check.specs.Text.{line_of}
use Rattle.spv_check.specs.Verdict.{IsVerdict, fault_line, line_end, refused_line}
use Rattle.spv_module.specs.Module.{plain_insts}
use Rattle.spv_module.specs.declared.module.Module.{Module}
use Rattle.spv_facts.specs.declared.fact.Detail.TheVariants.{Short}
use Rattle.spv_explain.specs.Stream.{IsExplanation, IsWalk}
use Rattle.spv_inst.specs.Outcome.{IsDecodeFault}
use Rattle.spv_module.specs.declared.fault.Fault.{Fault}
use Rattle.spv_module.specs.declared.fault.Stop.TheVariants as stop
use Rattle.spv_check.specs.declared.verdict_line.Judgment.TheVariants.{Broken}
use Rattle.spv_explain.specs.declared.stream.Explanation.{Explanation}
use Rattle.std.specs.Prelude.{All, ◌^◌}
use Rattle.std.proofs.lemmas.List.{length-drop}
use Rattle.std.proofs.lemmas.List.Elements.{All-drop, recursion_from_All}
use Rattle.spv_words.specs.Header.{greatest_length}
use Rattle.spv_layout.specs.Place.{IsShort, word_count}
use Rattle.spv_explain.specs.Stream.{IsModuleOf}
use Rattle.spv_annotate.specs.Document.{IsSpelled}
use Rattle.spv_annotate.specs.declared.finding.Finding.{Finding}
use Rattle.spv_names.specs.declared.chosen.Chosen.{Chosen}
use Rattle.spv_views.specs.View.{AreLaidOutFor, AreListed, BeginsViewing, HasNoText, IsPart, IsTextOf, IsTold, IsViewing}
use Rattle.spv_views.specs.View.{IsWritten}
use Rattle.spv_views.specs.View.{LacksFunction, NamesSeveral, Views, begun, judged, mislaid}
use Rattle.spv_views.specs.View.{shows_beginning, unlisted, viewed, wordless}
use Rattle.spv_views.specs.inner.Beginning.{IsBegun}
use Rattle.spv_explain.specs.declared.stream.Told.{Told}
use Rattle.spv_views.specs.inner.Viewed.{IsToldOf, IsLaid, IsMislaid, IsWrittenBy, WhyNoPart, is_behind_layout, is_text, output_of, viewed_refusal}
use Rattle.spv_views.specs.declared.view.View.{View}
use Rattle.spv_views.specs.declared.view.View.TheVariants as kind
use Rattle.spv_views.specs.declared.view.ViewError.{ViewError}
use Rattle.spv_views.specs.declared.view.ViewError.TheVariants as trouble
use Rattle.spv_views.specs.declared.viewing.Viewed.{Viewed}

-- which stages come behind the layout
pub behind : (r : Rule) → IsTrue (is_behind_layout r) ↔ (of_layout < stage_of r)
behind rule.I1 = (λ e. cc, λ h. absurd (omega (arith, h)))
behind rule.I2 = (λ e. cc, λ h. absurd (omega (arith, h)))
behind rule.I3 = (λ e. cc, λ h. absurd (omega (arith, h)))
behind rule.I4 = (λ e. cc, λ h. absurd (omega (arith, h)))
behind rule.I5 = (λ e. cc, λ h. absurd (omega (arith, h)))
behind rule.I6 = (λ e. cc, λ h. absurd (omega (arith, h)))
behind rule.I7 = (λ e. cc, λ h. absurd (omega (arith, h)))
behind rule.I8 = (λ e. cc, λ h. absurd (omega (arith, h)))
behind rule.I9 = (λ e. cc, λ h. absurd (omega (arith, h)))
behind rule.I10 = (λ e. cc, λ h. absurd (omega (arith, h)))
behind rule.I11 = (λ e. cc, λ h. absurd (omega (arith, h)))
behind rule.I12 = (λ e. cc, λ h. absurd (omega (arith, h)))
behind rule.P1 = (λ e. cc, λ h. absurd (omega (arith, h)))
behind rule.L1 = (λ e. cc, λ h. absurd (omega (arith, h)))
behind rule.L2 = (λ e. cc, λ h. absurd (omega (arith, h)))
behind _ = (λ e. omega arith, λ h. refl)

-- bytes that are no words have no list
pub no_words : (how : View) (G : Table) (reach : Reach) (bytes : List ℕ) (code : WordError) (function : Option Chosen)
    → ((e : WordError) (o : Order) (bs ws : List ℕ) → IsModule o bs ws → ¬ IsFirstBroken e bs)
    → IsFirstBroken code bytes → HasNoText how G reach bytes function
no_words how G reach bytes code function never h = wordless function (λ o ws m. never code o bytes ws m h)

refused_line_written : (how : View) (G : Table) (reach : Reach) (function : Option Chosen) (bytes : List ℕ) (code : WordError)
    → ((e : WordError) (o : Order) (bs ws : List ℕ) → IsModule o bs ws → ¬ IsFirstBroken e bs)
    → IsFirstBroken code bytes
    → IsViewing how G reach function bytes (refused_line code) false
refused_line_written how G reach function bytes code never h =
    judged (refused_line code) (no_words how G reach bytes code function never h) (IsVerdict.refused code h)

-- a code that was read
pub refused_bytes : ((e : WordError) (o : Order) (bs ws : List ℕ) → IsModule o bs ws → ¬ IsFirstBroken e bs)
    → (how : View) (G : Table) (reach : Reach) (function : Option Chosen) (known : Option (List ℕ)) (code : WordError)
    → IfSome known (λ xs. RefusesBytes code xs)
    → IfSome known (λ xs. IfOk (viewed_refusal code) (λ v. IsViewing how G reach function xs (output_of v) (is_text v)))
refused_bytes never how G reach function None code h = tt
refused_bytes never how G reach function (Some xs) word.W1 h = tt
refused_bytes never how G reach function (Some xs) word.W9 h = tt
refused_bytes never how G reach function (Some xs) word.W2 h = refused_line_written how G reach function xs word.W2 never h
refused_bytes never how G reach function (Some xs) word.W3 h = refused_line_written how G reach function xs word.W3 never h
refused_bytes never how G reach function (Some xs) word.W4 h = refused_line_written how G reach function xs word.W4 never h
refused_bytes never how G reach function (Some xs) word.W5 h = refused_line_written how G reach function xs word.W5 never h
refused_bytes never how G reach function (Some xs) word.W6 h = refused_line_written how G reach function xs word.W6 never h
refused_bytes never how G reach function (Some xs) word.W7 h = refused_line_written how G reach function xs word.W7 never h
refused_bytes never how G reach function (Some xs) word.W8 h = refused_line_written how G reach function xs word.W8 never h

pub refused_stranger : (P : Type 0) (code : WordError) → IsErrOf (viewed_refusal code) trouble.NoFunction → P
refused_stranger P word.W1 e = cc
refused_stranger P word.W9 e = cc
refused_stranger P code e = cc

pub refused_several : (P : Type 0) (code : WordError) → IsErrOf (viewed_refusal code) trouble.SeveralFunctions → P
refused_several P word.W1 e = cc
refused_several P word.W9 e = cc
refused_several P code e = cc

-- W1 is told where it was read
pub refused_count : {X : Type 0} (P : Type 0) (code : WordError) (r : Result X WordError) → r ≡ Err code
    → (P ↔ IsErrOf r word.W1)
    → (P ↔ IsErrOf (viewed_refusal code) trouble.Failed)
refused_count P word.W1 r q h = (λ p. refl, λ e. h.1 q)
refused_count P word.W9 r q h = (λ p. let e = h.0 p in cc, λ e. cc)
refused_count P code r q h = (λ p. let e = h.0 p in cc, λ e. cc)

-- words that are no list of instructions
pub no_list : ((o p : Order) (bs ws vs : List ℕ) → IsModule o bs ws → IsModule p bs vs → (o ≡ p) × (ws ≡ vs))
    → (how : View) (G : Table) (reach : Reach) (bytes words : List ℕ) (order : Order) (function : Option Chosen) → IsModule order bytes words
    → ((is : List PlainInst) → ¬ (IsListing G is (drop 5 words)))
    → shows_beginning how function ≡ false → HasNoText how G reach bytes function
no_list once how G reach bytes words order function h none s =
    unlisted function s (λ m l. none (plain_insts m)
    (subst (λ (ws : List ℕ). IsListing G (plain_insts m) (drop 5 ws))
    ((once l.order order bytes l.words words l.is_module h).1) l.listed.listing))

-- of words that are no list, the verdict line; and so where a function is asked for, and functions cannot be told apart
pub unlisted_line : ((o p : Order) (bs ws vs : List ℕ) → IsModule o bs ws → IsModule p bs vs → (o ≡ p) × (ws ≡ vs))
    → (how : View) (G : Table) (reach : Reach) (function : Option Chosen) (bytes words : List ℕ) (order : Order) (e : Explanation)
    → IsModule order bytes words → ((is : List PlainInst) → ¬ (IsListing G is (drop 5 words)))
    → shows_beginning how function ≡ false → IsExplanation Short G reach bytes e
    → IsViewing how G reach function bytes (line_of e.judgment) false
unlisted_line once how G reach function bytes words order e h none s x =
    judged (line_of e.judgment) (no_list once how G reach bytes words order function h none s) x.verdict

-- what is written with what explains the verdict
told_by : (how : View) (G : Table) (reach : Reach) (function : Option ℕ) (bytes : List ℕ) (e : Explanation) (walk : List ℕ) (m : Module)
    (text : List ℕ) → IsExplanation Short G reach bytes e → IsWalk Short G reach bytes e walk
    → IsWrittenBy how G reach m e walk function text → IsTextOf how G reach function bytes m text
told_by how G reach function bytes e walk m text x k w = record {
  finding = w.finding;
  told = IsTold.explained how function w.finding e walk x k w.of;
  written = w.written;
}

-- or the instructions before the one that is malformed
pub begun_viewed : (how : View) (G : Table) (reach : Reach) (function : Option Chosen) (bytes words : List ℕ) (order : Order)
    (e : Explanation) (walk : List ℕ) (m : Module) (text : List ℕ) → IsModule order bytes words
    → IsBegun G words m → shows_beginning how function ≡ true → IsExplanation Short G reach bytes e
    → IsWalk Short G reach bytes e walk
    → IsWrittenBy how G reach m e walk None text → IsViewing how G reach function bytes text false
begun_viewed how G reach function bytes words order e walk m text h b s x k w = begun m text s (record {
  words = words;
  order = order;
  is_module = h;
  header = b.header;
  part = b.part;
  rest = b.rest;
  all = b.all;
  listed = b.listed;
  rule = b.rule;
  word = b.word;
  malformed = b.malformed;
}) (told_by how G reach None bytes e walk m text x k w)

pub mislaid_line : (how : View) (G : Table) (reach : Reach) (function : Option Chosen) (bytes : List ℕ) (e : Explanation)
    → IsExplanation Short G reach bytes e → IsMislaid function e.judgment
    → IsViewing how G reach function bytes (line_of e.judgment) false
mislaid_line how G reach None bytes e x n = absurd n
mislaid_line how G reach (Some chosen) bytes e x n =
    judged (line_of e.judgment) (mislaid chosen (record { judgment = e.judgment; verdict = x.verdict; breaks = n }))
    x.verdict

-- a module that was read
are_listed : (G : Table) (bytes words : List ℕ) (order : Order) (m : Module) → IsModule order bytes words
    → IsModuleOf G words m → AreListed G bytes m
are_listed G bytes words order m h l = record { words = words; order = order; is_module = h; listed = l }

laid_out : (G : Table) (reach : Reach) (bytes : List ℕ) (function : Option Chosen) (e : Explanation)
    → IsExplanation Short G reach bytes e → IsLaid function e.judgment → AreLaidOutFor G reach bytes function
laid_out G reach bytes None e x k = tt
laid_out G reach bytes (Some chosen) e x k = record { judgment = e.judgment; verdict = x.verdict; keeps = k }

pub lacking : (G : Table) (reach : Reach) (function : Option Chosen) (bytes words : List ℕ) (order : Order) (e : Explanation)
    (m : Module) (t : ViewError) → IsModule order bytes words
    → IsModuleOf G words m → IsExplanation Short G reach bytes e → IsLaid function e.judgment
    → WhyNoPart (plain_insts m) function t → t ≡ trouble.NoFunction → LacksFunction G reach bytes function
lacking G reach function bytes words order e m trouble.NoFunction h l x k n q = record {
  of = m;
  listed = are_listed G bytes words order m h l;
  laid = laid_out G reach bytes function e x k;
  none = n;
}
lacking G reach function bytes words order e m trouble.SeveralFunctions h l x k n q = cc
lacking G reach function bytes words order e m trouble.Failed h l x k n q = cc
lacking G reach function bytes words order e m trouble.Memory h l x k n q = cc

pub several : (G : Table) (reach : Reach) (function : Option Chosen) (bytes words : List ℕ) (order : Order) (e : Explanation)
    (m : Module) (t : ViewError) → IsModule order bytes words
    → IsModuleOf G words m → IsExplanation Short G reach bytes e → IsLaid function e.judgment
    → WhyNoPart (plain_insts m) function t → t ≡ trouble.SeveralFunctions → NamesSeveral G reach bytes function
several G reach function bytes words order e m trouble.SeveralFunctions h l x k n q = record {
  of = m;
  listed = are_listed G bytes words order m h l;
  laid = laid_out G reach bytes function e x k;
  several = n;
}
several G reach function bytes words order e m trouble.NoFunction h l x k n q = cc
several G reach function bytes words order e m trouble.Failed h l x k n q = cc
several G reach function bytes words order e m trouble.Memory h l x k n q = cc

pub module_viewed : (how : View) (G : Table) (reach : Reach) (function : Option Chosen) (id : Option ℕ) (bytes words : List ℕ)
    (order : Order) (e : Explanation) (walk : List ℕ) (m : Module) (text : List ℕ) → IsModule order bytes words
    → IsModuleOf G words m → IsExplanation Short G reach bytes e → IsWalk Short G reach bytes e walk
    → IsLaid function e.judgment → IsPart (plain_insts m) function id
    → IsWrittenBy how G reach m e walk id text → IsViewing how G reach function bytes text true
module_viewed how G reach function id bytes words order e walk m text h l x a k p w =
    viewed m id text (are_listed G bytes words order m h l) (laid_out G reach bytes function e x k) p
    (told_by how G reach id bytes e walk m text x a w)

-- the graph of calls, for which no verdict is needed
pub calls_drawn : (G : Table) (reach : Reach) (bytes words : List ℕ) (order : Order) (m : Module) (text : List ℕ)
    → IsModule order bytes words → IsModuleOf G words m
    → IsWritten kind.Graph G reach m None None text → IsViewing kind.Graph G reach None bytes text true
calls_drawn G reach bytes words order m text h l w =
    viewed m None text (are_listed G bytes words order m h l) tt tt
    (record { finding = None; told = IsTold.calls; written = w })

pub calls_line : ((o p : Order) (bs ws vs : List ℕ) → IsModule o bs ws → IsModule p bs vs → (o ≡ p) × (ws ≡ vs))
    → (G : Table) (reach : Reach) (bytes words : List ℕ) (order : Order) (f : Fault) → IsModule order bytes words
    → ((is : List PlainInst) → ¬ (IsListing G is (drop 5 words))) → IsDecodeFault G words (stop.Fault f)
    → IsViewing kind.Graph G reach None bytes (line_of (Broken f)) false
calls_line once G reach bytes words order f h none d =
    let low = d.0 in
    let e : 5 + (f.word - 5) ≡ f.word = omega arith in
    judged (line_of (Broken f)) (no_list once kind.Graph G reach bytes words order None h none refl)
    (subst (λ (n : ℕ). IsVerdict G reach bytes (fault_line f.rule f.inst n)) e
    (IsVerdict.dead words order f.rule f.inst (f.word - 5) h d.1))

-- what is told
pub told : (G : Table) (reach : Reach) (bytes : List ℕ) (t : Told) → IsExplanation Short G reach bytes t.explanation
    → IsWalk Short G reach bytes t.explanation t.walk.items → IsToldOf G reach bytes t
told G reach bytes t x k = record { explains = x; walks = k }

-- no fault is told of without an explanation
pub untold : (G : Table) (reach : Reach) (bytes : List ℕ) (how : View) (function : Option ℕ) (finding : Finding)
    (some : Option Finding) → some ≡ Some finding → ((e : Explanation) → ¬ (IsExplanation Short G reach bytes e))
    → ¬ (IsTold G reach bytes how function some)
untold G reach bytes _ _ finding _ q none (IsTold.explained how function some e walk x k f) = none e x
untold G reach bytes _ _ finding _ q none IsTold.calls = cc

-- what the text, the page and the graph ask of a module
pub spelled : (G : Table) (words : List ℕ) (m : Module) → All (λ w. w < 2 ^ 32) words → IsModuleOf G words m
    → IsSpelled G (plain_insts m)
spelled G words m a l = record {
  words = drop 5 words;
  small = recursion_from_All (λ w. w < 2 ^ 32) (drop 5 words) (All-drop (λ w. w < 2 ^ 32) 5 words a);
  listed = l.listing;
}

pub short : (words : List ℕ) (is : List PlainInst) → length words ≤ greatest_length
    → length (drop 5 words) ≡ sum_by word_count is → IsShort is
short words is l e = let d : length (drop 5 words) ≡ length words - 5 = length-drop 5 words in omega (arith, l, e, d)

-- what is written of the words that were read
pub known_viewing : (how : View) (G : Table) (reach : Reach) (function : Option Chosen) (known : Option (List ℕ)) (words : List ℕ)
    (order : Order) (r : Result Viewed ViewError)
    → IfSome known (λ xs. IsModule order xs words)
    → ((bytes : List ℕ) (o : Order) → IsModule o bytes words
    → IfOk r (λ v. IsViewing how G reach function bytes (output_of v) (is_text v)))
    → IfSome known (λ xs. IfOk r (λ v. IsViewing how G reach function xs (output_of v) (is_text v)))
known_viewing how G reach function None words order r h v = tt
known_viewing how G reach function (Some xs) words order r h v = v xs order h

pub known_reason : (Q : List ℕ → Type 0) (known : Option (List ℕ)) (words : List ℕ) (order : Order)
    (P : Type 0) → IfSome known (λ xs. IsModule order xs words)
    → ((bytes : List ℕ) (o : Order) → IsModule o bytes words → P → Q bytes) → P → IfSome known Q
known_reason Q None words order P h v p = tt
known_reason Q (Some xs) words order P h v p = v xs order h p

-- it was written whole
pub views : (how : View) (G : Table) (reach : Reach) (function : Option Chosen) (known kept new : Option (List ℕ)) (v : Viewed)
    (answer : Bool)
    → IfSome known (λ bs. IsViewing how G reach function bs (output_of v) (is_text v)) → answer ≡ is_text v
    → Appends kept new (output_of v)
    → IfSome known (λ bs. IfSome kept (λ old. Views how G reach function bs old new answer))
views how G reach function None kept new v answer h e w = tt
views how G reach function (Some bs) None new v answer h e w = tt
views how G reach function (Some bs) (Some old) None v answer h e w = absurd w
views how G reach function (Some bs) (Some old) (Some xs) v answer h e w =
    record { output = output_of v; viewing = rw e h; written = ap Some w }

-- a beginning of it was
pub begins_viewing : (how : View) (G : Table) (reach : Reach) (function : Option Chosen) (known kept new : Option (List ℕ)) (v : Viewed)
    → IfSome known (λ bs. IsViewing how G reach function bs (output_of v) (is_text v))
    → IfSome kept (λ xs. (n : ℕ) × (n ≤ length (output_of v)) × (new ≡ Some (xs ++ take n (output_of v))))
    → IfSome known (λ bs. IfSome kept (λ old. BeginsViewing how G reach function bs old new))
begins_viewing how G reach function None kept new v h w = tt
begins_viewing how G reach function (Some bs) None new v h w = tt
begins_viewing how G reach function (Some bs) (Some old) new v h w =
    record { output = output_of v; answer = is_text v; viewing = h; count = w.0; fits = w.1; written = w.2 }

-- three bytes are no module, and have nothing to look at
pub short_viewed : ((e : WordError) (o : Order) (bs ws : List ℕ) → IsModule o bs ws → ¬ IsFirstBroken e bs)
    → (G : Table) (reach : Reach) (how : View) (function : Option Chosen) → IsFirstBroken word.W2 (1 ∷ 2 ∷ 3 ∷ [])
    → Views how G reach function (1 ∷ 2 ∷ 3 ∷ []) (9 ∷ []) (Some (9 ∷ codes "fault W2" ++ line_end)) false
short_viewed never G reach how function h =
    record {
      output = refused_line word.W2;
      viewing = refused_line_written how G reach function (1 ∷ 2 ∷ 3 ∷ []) word.W2 never h;
      written = refl;
    }

pub short_begun_viewing : ((e : WordError) (o : Order) (bs ws : List ℕ) → IsModule o bs ws → ¬ IsFirstBroken e bs)
    → (G : Table) (reach : Reach) (how : View) (function : Option Chosen) → IsFirstBroken word.W2 (1 ∷ 2 ∷ 3 ∷ [])
    → BeginsViewing how G reach function (1 ∷ 2 ∷ 3 ∷ []) (9 ∷ []) (Some (9 ∷ codes "fault"))
short_begun_viewing never G reach how function h =
    record {
      output = refused_line word.W2;
      answer = false;
      viewing = refused_line_written how G reach function (1 ∷ 2 ∷ 3 ∷ []) word.W2 never h;
      count = 5;
      fits =
          lit≤ tt;
      written = refl;
    }

pub no_view : (how : View) (G : Table) (reach : Reach) (function : Option Chosen) (bytes output : List ℕ) (answer : Bool) → answer ≡ true
    → ((o : Order) (ws : List ℕ) → ¬ (IsModule o bytes ws))
    → ¬ (IsViewing how G reach function bytes output answer)
no_view how G reach function bytes _ _ e never (judged line n v) = cc
no_view how G reach function bytes _ _ e never (begun m text s a t) = cc
no_view how G reach function bytes _ _ e never (viewed m id text l k p t) = never l.order l.words l.is_module

pub none_lacking : (G : Table) (reach : Reach) (bytes : List ℕ) (function : Option Chosen)
    → ((o : Order) (ws : List ℕ) → ¬ (IsModule o bytes ws)) → ¬ (LacksFunction G reach bytes function)
none_lacking G reach bytes function never l = never l.listed.order l.listed.words l.listed.is_module

pub none_several : (G : Table) (reach : Reach) (bytes : List ℕ) (function : Option Chosen)
    → ((o : Order) (ws : List ℕ) → ¬ (IsModule o bytes ws)) → ¬ (NamesSeveral G reach bytes function)
none_several G reach bytes function never l = never l.listed.order l.listed.words l.listed.is_module
