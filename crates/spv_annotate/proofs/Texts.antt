-- The lines of a shown text.
use Rattle.std.proofs.Common.{◌≡◌, ◌≢◌, ◌++◌, ◌∙◌, ℕ, List, [], ◌∷◌, Bool, true, false, not, ◌&&◌, nat_eq, refl, ap}
use Rattle.std.proofs.Common.{arith}
use Rattle.std.specs.Prelude.{decimal, codes}
use Rattle.std.specs.List.{list_all}
use Rattle.std.proofs.lemmas.Bool.Decides.{nat_tests}
use Rattle.spv_words.specs.declared.words.Header.{Header}
use Rattle.spv_table.specs.Table.{Table}
use Rattle.spv_module.specs.Operand.{PlainInst}
use Rattle.spv_extended.specs.declared.reach.Reach.{Reach}
use Rattle.spv_extended.specs.declared.reach.Reach.TheVariants.{Profile, Extended, OpenCl}
use Rattle.spv_lines.specs.Text.{IsShownText, header_lines, lines_of}
use Rattle.std.proofs.Common.{zero, suc, ◌/◌, ◌%◌, ◌==◌}
use Rattle.std.specs.Prelude.{if◌then◌else◌}
use Rattle.std.specs.Fmt.{digit_glyph, digits, digits_onto}
use Rattle.spv_lines.specs.Operand.{id_text}
use Rattle.spv_lines.proofs.Back.{NoFeed, feedless-append}
use Rattle.spv_lines.proofs.Showing.{AreLines, lines-append, lines_ended}
use Rattle.spv_annotate.specs.Document.{IsSpelled, told_header, version_line}
use Rattle.spv_annotate.proofs.Shown.{quiet_lines, shown_quiet}

and_both : (a b : Bool) → (a && b) ≡ true → (a ≡ true) × (b ≡ true)
and_both true b h = (refl, h)
and_both false b h = cc

pub no_feed_by : (t : List ℕ) → list_all (λ b. not (nat_eq b 10)) t ≡ true → NoFeed t
no_feed_by [] h = tt
no_feed_by (b ∷ t) h =
    let r = and_both (not (nat_eq b 10)) (list_all (λ b. not (nat_eq b 10)) t) h in
    (differs b r.0, no_feed_by t r.1)
  where
    differs : (b : ℕ) → not (nat_eq b 10) ≡ true → b ≢ 10
    differs b e = grind (arith, nat_tests)

-- Numbers.

glyph_feedless : (d : ℕ) → digit_glyph false d ≢ 10
glyph_feedless d e = grind (arith, nat_tests)

onto_feedless : (k n : ℕ) (acc : List ℕ) → NoFeed acc → NoFeed (digits_onto k 10 false n acc)
onto_feedless zero n acc h = h
onto_feedless (suc k) n acc h =
    split (n / 10 == 0) (onto_feedless k (n / 10) (digit_glyph false (n % 10) ∷ acc) (glyph_feedless (n % 10), h))
  where
    split : (b : Bool) → NoFeed (digits_onto k 10 false (n / 10) (digit_glyph false (n % 10) ∷ acc))
        → NoFeed (if b then digit_glyph false (n % 10)
        ∷ acc else digits_onto k 10 false (n / 10) (digit_glyph false (n % 10) ∷ acc))
    split true m = (glyph_feedless (n % 10), h)
    split false m = m

pub decimal_feedless : (n : ℕ) → NoFeed (decimal n)
unfolding digits
decimal_feedless n = onto_feedless 64 n [] tt

pub id_feedless : (x : ℕ) → NoFeed (id_text x)
id_feedless x = ((λ e. omega arith), decimal_feedless x)

numbered : (front : List ℕ) (n : ℕ) → list_all (λ b. not (nat_eq b 10)) front ≡ true → NoFeed (front ++ decimal n)
numbered front n e = feedless-append front (decimal n) (no_feed_by front e) (decimal_feedless n)

pub header_feedless : (h : Header) → AreLines (header_lines h)
header_feedless h = (
  no_feed_by (codes "; SPIR-V") refl,
  (
    no_feed_by (codes "; Version: 1.6") refl,
    (
      numbered (codes "; Generator: ") h.generator refl,
      (numbered (codes "; Bound: ") h.bound refl, (no_feed_by (codes "; Schema: 0") refl, tt)),
    ),
  ),
)

version_feedless : (reach : Reach) → NoFeed (version_line reach)
version_feedless Profile = no_feed_by (codes "; Version: 1.6") refl
version_feedless Extended = no_feed_by (codes "; Version: 1.6") refl
version_feedless (OpenCl minor) = numbered (codes "; Version: 1.") minor refl

pub told_feedless : (reach : Reach) (h : Header) → AreLines (told_header reach h)
told_feedless reach h = let f = header_feedless h in (f.0, (version_feedless reach, f.1.1))

-- the lines of a shown text
pub text_lines : (G : Table) (h : Header) (is : List PlainInst) (t : List ℕ) → (s : IsShownText G h is t)
    → IsSpelled G is
    → lines_of t ≡ header_lines h ++ s.lines
text_lines G h is t s e =
    ap lines_of s.all ∙ lines_ended (header_lines h ++ s.lines)
    (lines-append (header_lines h) s.lines (header_feedless h)
    (quiet_lines s.lines (shown_quiet G is s.lines s.shown e)))
