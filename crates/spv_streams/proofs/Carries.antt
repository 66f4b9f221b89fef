-- What writers get of what writers that held nothing would get.
use Rattle.std.proofs.Common.{◌≡◌, ◌∙◌, ◌++◌, ◌*◌, ◌≤◌, ℕ, List, [], Option, Some, None, Bool}
use Rattle.std.proofs.Common.{IfSome, length, take, ap, subst, arith}
use Rattle.std.proofs.Common.{append-nil}
use Rattle.std.specs.Io.KnownBytes.{Appends, Keeps}
use Rattle.std.proofs.lemmas.List.{length-take-le, take-take}
use Rattle.spv_words.specs.declared.words.Order.{Order}
use Rattle.spv_table.specs.Table.{Table}
use Rattle.spv_extended.specs.declared.reach.Reach.{Reach}
use Rattle.spv_names.specs.declared.chosen.Chosen.{Chosen}
use Rattle.spv_check.specs.Stream.{Begins, TellsVerdict}
use Rattle.spv_facts.specs.declared.fact.Detail.{Detail}
use Rattle.spv_explain.specs.Stream.{BeginsExplaining, Explains}
use Rattle.spv_views.specs.View.{BeginsViewing, Views}
use Rattle.spv_views.specs.declared.view.View.{View}
use Rattle.spv_views.specs.declared.view.View.TheVariants as views
use Rattle.spv_command_line.specs.declared.command_line.Command.{Command}
use Rattle.spv_command_line.specs.declared.command_line.Command.TheVariants.{Judge, Show, Asm, Trace, Rules, Grammar}
use Rattle.spv_command_line.specs.declared.command_line.Command.TheVariants.{Annotate, Graph}
use Rattle.spv_command_line.specs.declared.command_line.Task.TheVariants as tasks
use Rattle.spv_commands.specs.Assemble.{Assembles, BeginsAssembling, HoldsModule, minor_asked, order_of}
use Rattle.spv_commands.specs.Show.{BeginsShowing, Shows}
use Rattle.spv_commands.specs.Task.{Does, detail_of, view_of}
use Rattle.spv_scope.specs.Scope.{reach_of, taken}
use Rattle.spv_scope.specs.declared.scope.Scope.{Scope}
use Rattle.spv_commands.specs.Trace.{BeginsTracing, Traces}
use Rattle.spv_commands.specs.Trouble.{BeginsWith}
use Rattle.spv_commands.proofs.Carried.{CarriesOne, carry_explained, carry_verdict, grown, held_by}
use Rattle.spv_streams.specs.Begin.{BeginsToDo}

-- After a failed write a writer has got a beginning of what one that held nothing would get.
abbrev pub BeginsOne : (List ℕ → List ℕ → Option (List ℕ) → Bool → Type 0)
    → (List ℕ → List ℕ → Option (List ℕ) → Type 0) → Type 0
BeginsOne W B = (bytes o old : List ℕ) (new : Option (List ℕ)) (b : Bool) → W bytes [] (Some o) b
    → BeginsWith o old new → B bytes old new

-- the same of two writers
abbrev pub CarriesBoth : (List ℕ → Option (List ℕ) → Option (List ℕ) → Option (List ℕ) → Option (List ℕ) → Bool
    → Type 0) → Type 0
CarriesBoth W = (bytes o m : List ℕ) (b : Bool) (old new held kept : Option (List ℕ))
    → W bytes (Some []) (Some o) (Some []) (Some m) b → Appends old new o → Appends held kept m
    → W bytes old new held kept b

abbrev pub BeginsBoth : (List ℕ → Option (List ℕ) → Option (List ℕ) → Option (List ℕ) → Option (List ℕ) → Bool
    → Type 0)
    → (List ℕ → Option (List ℕ) → Option (List ℕ) → Option (List ℕ) → Option (List ℕ) → Type 0) → Type 0
BeginsBoth W B = (bytes o m : List ℕ) (b : Bool) (old new held kept : Option (List ℕ))
    → W bytes (Some []) (Some o) (Some []) (Some m) b → IfSome old (λ xs. BeginsWith o xs new)
    → IfSome held (λ xs. BeginsWith m xs kept) → B bytes old new held kept

-- ---- what is known

begun : (o line old : List ℕ) (new : Option (List ℕ)) → Some o ≡ Some line → BeginsWith o old new
    → BeginsWith line old new
begun o line old new e b = subst (λ (l : List ℕ). BeginsWith l old new) (ap held_by e) b

-- ---- one writer

begin_verdict : (G : Table) (reach : Reach) → BeginsOne (TellsVerdict G reach) (Begins G reach)
begin_verdict G reach bytes o old new b h w =
    let front = begun o h.line old new h.written w in
    record {
      line = h.line;
      verdict = h.verdict;
      count = front.count;
      fits = front.fits;
      written = front.written;
    }

begin_explained : (d : Detail) (G : Table) (reach : Reach) → BeginsOne (Explains d G reach) (BeginsExplaining d G reach)
begin_explained d G reach bytes o old new b h w =
    let front = begun o (h.line ++ h.lines) old new h.written w in
    record {
      line = h.line;
      lines = h.lines;
      verdict = h.verdict;
      explain = h.explain;
      dead = h.dead;
      others = h.others;
      count = front.count;
      fits = front.fits;
      written = front.written;
    }

pub carry_shown : (G : Table) (reach : Reach) → CarriesOne (Shows G reach)
carry_shown G reach bytes o old new b h w =
    record { output = h.output; showing = h.showing; written = grown o h.output old new h.written w }

pub begin_shown : (G : Table) (reach : Reach) → BeginsOne (Shows G reach) (BeginsShowing G reach)
begin_shown G reach bytes o old new b h w =
    let front = begun o h.output old new h.written w in
    record {
      output = h.output;
      answer = b;
      showing = h.showing;
      count = front.count;
      fits = front.fits;
      written = front.written;
    }

pub carry_traced : (G : Table) (reach : Reach) (function : Chosen) (choices : List ℕ) (limit : ℕ)
    → CarriesOne (Traces G reach function choices limit)
carry_traced G reach function choices limit bytes o old new b h w =
    record { output = h.output; tracing = h.tracing; written = grown o h.output old new h.written w }

pub begin_traced : (G : Table) (reach : Reach) (function : Chosen) (choices : List ℕ) (limit : ℕ)
    → BeginsOne (Traces G reach function choices limit) (BeginsTracing G reach function choices limit)
begin_traced G reach function choices limit bytes o old new b h w =
    let front = begun o h.output old new h.written w in
    record {
      output = h.output;
      answer = b;
      tracing = h.tracing;
      count = front.count;
      fits = front.fits;
      written = front.written;
    }

carry_viewed : (how : View) (G : Table) (reach : Reach) (function : Option Chosen)
    → CarriesOne (Views how G reach function)
carry_viewed how G reach function bytes o old new b h w =
    record { output = h.output; viewing = h.viewing; written = grown o h.output old new h.written w }

begin_viewed : (how : View) (G : Table) (reach : Reach) (function : Option Chosen)
    → BeginsOne (Views how G reach function) (BeginsViewing how G reach function)
begin_viewed how G reach function bytes o old new b h w =
    let front = begun o h.output old new h.written w in
    record {
      output = h.output;
      answer = b;
      viewing = h.viewing;
      count = front.count;
      fits = front.fits;
      written = front.written;
    }

-- ---- two writers, of which one gets all

abbrev TakenBy : Scope → (Reach → List ℕ → List ℕ → Option (List ℕ) → Bool → Type 0)
    → List ℕ → List ℕ → Option (List ℕ) → Bool → Type 0
TakenBy s W bytes = W (reach_of s bytes) (taken s bytes)

carry_taken : (s : Scope) (W : Reach → List ℕ → List ℕ → Option (List ℕ) → Bool → Type 0)
    → ((reach : Reach) → CarriesOne (W reach)) → CarriesOne (TakenBy s W)
carry_taken s W carry bytes = carry (reach_of s bytes) (taken s bytes)

abbrev BegunBy : Scope → (Reach → List ℕ → List ℕ → Option (List ℕ) → Type 0)
    → List ℕ → List ℕ → Option (List ℕ) → Type 0
BegunBy s B bytes = B (reach_of s bytes) (taken s bytes)

begin_taken : (s : Scope) (W : Reach → List ℕ → List ℕ → Option (List ℕ) → Bool → Type 0)
    (B : Reach → List ℕ → List ℕ → Option (List ℕ) → Type 0)
    → ((reach : Reach) → BeginsOne (W reach) (B reach)) → BeginsOne (TakenBy s W) (BegunBy s B)
begin_taken s W B begin bytes = begin (reach_of s bytes) (taken s bytes)

carry_alone : (W : List ℕ → List ℕ → Option (List ℕ) → Bool → Type 0) → CarriesOne W
    → CarriesBoth (λ bytes old new held kept b. IfSome old (λ xs. W bytes xs new b))
carry_alone W carry bytes o m b None new held kept h w v = tt
carry_alone W carry bytes o m b (Some old) None held kept h w v = absurd w
carry_alone W carry bytes o m b (Some old) (Some xs) held kept h w v = carry bytes o old (Some xs) b h (ap Some w)

begin_alone : (W : List ℕ → List ℕ → Option (List ℕ) → Bool → Type 0)
    (B : List ℕ → List ℕ → Option (List ℕ) → Type 0) → BeginsOne W B
    → BeginsBoth (λ bytes old new held kept b. IfSome old (λ xs. W bytes xs new b))
    (λ bytes old new held kept. IfSome old (λ xs. B bytes xs new))
begin_alone W B begin bytes o m b None new held kept h w v = tt
begin_alone W B begin bytes o m b (Some old) new held kept h w v = begin bytes o old new b h w

-- ---- a text that is assembled

kept_by : (o : List ℕ) (old new : Option (List ℕ)) → o ≡ [] → Appends old new o → Keeps old new
kept_by o None new e w = tt
kept_by o (Some xs) None e w = absurd w
kept_by o (Some xs) (Some ys) e w = w ∙ ap (λ (l : List ℕ). xs ++ l) e ∙ append-nil xs

kept_as : (xs : List ℕ) (new : Option (List ℕ)) → new ≡ Some xs → Keeps (Some xs) new
kept_as xs None e = cc
kept_as xs (Some ys) e = ap held_by e

kept_begun : (o : List ℕ) (old new : Option (List ℕ)) → o ≡ [] → IfSome old (λ xs. BeginsWith o xs new) → Keeps old new
kept_begun o None new e b = tt
kept_begun o (Some xs) new e b =
    let long : length o ≡ 0 = ap length e in
    let fits = b.fits in
    let none : b.count ≡ 0 = omega (arith, long, fits) in
    kept_as xs new
    (b.written ∙ ap (λ (n : ℕ). Some (xs ++ take n o)) none ∙ ap Some (append-nil xs))

held_on : (order : Order) (minor : Option ℕ) (words m : List ℕ) (n : ℕ) (held kept : Option (List ℕ))
    → HoldsModule order minor words [] (Some m) n → Appends held kept m
    → IfSome held (λ xs. HoldsModule order minor words xs kept n)
held_on order minor words m n None kept h w = tt
held_on order minor words m n (Some xs) None h w = absurd w
held_on order minor words m n (Some xs) (Some ys) h w = record {
  plain = h.plain;
  stands = h.stands;
  bytes = h.bytes;
  version = h.version;
  fits = h.fits;
  front = grown m (take n h.bytes) xs (Some ys) h.front (ap Some w);
}

held_begun : (order : Order) (minor : Option ℕ) (words m : List ℕ) (n : ℕ) (held kept : Option (List ℕ))
    → HoldsModule order minor words [] (Some m) n → IfSome held (λ xs. BeginsWith m xs kept)
    → IfSome held (λ xs. (k : ℕ) × HoldsModule order minor words xs kept k)
held_begun order minor words m n None kept h b = tt
held_begun order minor words m n (Some xs) kept h b =
    let all : m ≡ take n h.bytes = ap held_by h.front in
    let long : length m ≡ n = ap length all ∙ length-take-le n h.bytes h.fits in
    let fits = b.fits in
    let most = h.fits in
    let less : b.count ≤ n = omega (arith, long, fits) in (
      b.count,
      record {
        plain = h.plain;
        stands = h.stands;
        bytes = h.bytes;
        version = h.version;
        fits = omega (arith, less, most);
        front = b.written ∙ ap (λ (l : List ℕ). Some (xs ++ take b.count l)) all
            ∙ ap (λ (l : List ℕ). Some (xs ++ l)) (take-take b.count n h.bytes less);
      },
    )

pub carry_assembled : (G : Table) (order : Order) (explain opencl : Bool) → CarriesBoth (Assembles G order explain opencl)
carry_assembled G order explain opencl bytes o m _ old new held kept (Assembles.made words i k h) w v =
    Assembles.made words i (kept_by o old new k w)
    (held_on order (minor_asked opencl bytes) words m (4 * length words) held kept h v)
carry_assembled G order explain opencl bytes o m _ old new held kept (Assembles.failed told i a k) w v =
    Assembles.failed told i (subst (λ (l : List ℕ). Appends old new l) a w) (kept_by m held kept k v)

pub begin_assembled : (G : Table) (order : Order) (explain opencl : Bool)
    → BeginsBoth (Assembles G order explain opencl) (BeginsAssembling G order explain opencl)
begin_assembled G order explain opencl bytes o m _ old new held kept (Assembles.made words i k h) w v =
    BeginsAssembling.made words i (kept_begun o old new k w)
    (held_begun order (minor_asked opencl bytes) words m (4 * length words) held kept h v)
begin_assembled G order explain opencl bytes o m _ old new held kept (Assembles.failed told i a k) w v =
    BeginsAssembling.failed told i (subst (λ (l : List ℕ). IfSome old (λ xs. BeginsWith l xs new)) a w)
    (kept_begun m held kept k v)

-- ---- each command

pub carry_does : (c : Command) (G : Table) → CarriesBoth (Does c G)
carry_does (Judge tasks.Check g fs s n q j) G =
    carry_alone (TakenBy s (TellsVerdict G)) (carry_taken s (TellsVerdict G) (carry_verdict G))
carry_does (Judge (tasks.Explain full) g fs s n q j) G =
    carry_alone (TakenBy s (Explains (detail_of full) G))
    (carry_taken s (Explains (detail_of full) G) (carry_explained (detail_of full) G))
carry_does (Show g f s) G = carry_alone (TakenBy s (Shows G)) (carry_taken s (Shows G) (carry_shown G))
carry_does (Asm g f out b x l) G = carry_assembled G (order_of b) x l
carry_does (Trace g f id choices limit s) G =
    carry_alone (TakenBy s (λ reach. Traces G reach id choices.items limit))
    (carry_taken s (λ reach. Traces G reach id choices.items limit)
    (λ reach. carry_traced G reach id choices.items limit))
carry_does (Annotate g f s id form color) G =
    carry_alone (TakenBy s (λ reach. Views (view_of form color f) G reach id))
    (carry_taken s (λ reach. Views (view_of form color f) G reach id)
    (λ reach. carry_viewed (view_of form color f) G reach id))
carry_does (Graph g f s id) G =
    carry_alone (TakenBy s (λ reach. Views views.Graph G reach id))
    (carry_taken s (λ reach. Views views.Graph G reach id) (λ reach. carry_viewed views.Graph G reach id))
carry_does (Rules code j) G = λ bytes o m b old new held kept h w v. (
  record {
    text = h.0.text;
    are_rules = h.0.are_rules;
    written = subst (λ (l : List ℕ). Appends old new l) h.0.written w;
  },
  h.1,
)
carry_does (Grammar file) G = λ bytes o m b old new held kept h w v. (
  record {
    text = h.0.text;
    is_text = h.0.is_text;
    written = subst (λ (l : List ℕ). Appends old new l) h.0.written w;
  },
  h.1,
)

pub begin_does : (c : Command) (G : Table) → BeginsBoth (Does c G) (BeginsToDo c G)
begin_does (Judge tasks.Check g fs s n q j) G =
    begin_alone (TakenBy s (TellsVerdict G)) (BegunBy s (Begins G))
    (begin_taken s (TellsVerdict G) (Begins G) (begin_verdict G))
begin_does (Judge (tasks.Explain full) g fs s n q j) G =
    begin_alone (TakenBy s (Explains (detail_of full) G)) (BegunBy s (BeginsExplaining (detail_of full) G))
    (begin_taken s (Explains (detail_of full) G) (BeginsExplaining (detail_of full) G)
    (begin_explained (detail_of full) G))
begin_does (Show g f s) G = begin_alone (TakenBy s (Shows G)) (BegunBy s (BeginsShowing G))
    (begin_taken s (Shows G) (BeginsShowing G) (begin_shown G))
begin_does (Asm g f out b x l) G = begin_assembled G (order_of b) x l
begin_does (Trace g f id choices limit s) G =
    begin_alone (TakenBy s (λ reach. Traces G reach id choices.items limit))
    (BegunBy s (λ reach. BeginsTracing G reach id choices.items limit))
    (begin_taken s (λ reach. Traces G reach id choices.items limit)
    (λ reach. BeginsTracing G reach id choices.items limit) (λ reach. begin_traced G reach id choices.items limit))
begin_does (Annotate g f s id form color) G =
    begin_alone (TakenBy s (λ reach. Views (view_of form color f) G reach id))
    (BegunBy s (λ reach. BeginsViewing (view_of form color f) G reach id))
    (begin_taken s (λ reach. Views (view_of form color f) G reach id)
    (λ reach. BeginsViewing (view_of form color f) G reach id)
    (λ reach. begin_viewed (view_of form color f) G reach id))
begin_does (Graph g f s id) G =
    begin_alone (TakenBy s (λ reach. Views views.Graph G reach id))
    (BegunBy s (λ reach. BeginsViewing views.Graph G reach id))
    (begin_taken s (λ reach. Views views.Graph G reach id) (λ reach. BeginsViewing views.Graph G reach id)
    (λ reach. begin_viewed views.Graph G reach id))
begin_does (Rules code j) G = λ bytes o m b old new held kept h w v. record {
  text = h.0.text;
  are_rules = h.0.are_rules;
  begun = subst (λ (l : List ℕ). IfSome old (λ xs. BeginsWith l xs new)) h.0.written w;
}
begin_does (Grammar file) G = λ bytes o m b old new held kept h w v. record {
  text = h.0.text;
  is_text = h.0.is_text;
  begun = subst (λ (l : List ℕ). IfSome old (λ xs. BeginsWith l xs new)) h.0.written w;
}
