-- What is read of the page, piece by piece.
use Rattle.std.proofs.Common.{◌≡◌, ◌++◌, ◌∙◌, ℕ, List, [], ◌∷◌, Option, Some, None, Bool, true, false, refl, sym, ap}
use Rattle.std.proofs.Common.{append_assoc, append-nil, take}
use Rattle.std.specs.Prelude.{codes, flat_map, ◌==◌, decimal, option_and_then}
use Rattle.std.specs.List.{prefix_len}
use Rattle.std.proofs.lemmas.List.{take-append-drop}
use Rattle.spv_table.specs.Lookups.{is_number}
use Rattle.spv_module.specs.Operand.{result_in}
use Rattle.spv_module.specs.declared.opcode.TheConstants.{FUNCTION, LABEL}
use Rattle.spv_lines.specs.Digits.{is_digit}
use Rattle.spv_annotate.specs.declared.linked.Quoting.{Quoting}
use Rattle.spv_annotate.specs.declared.linked.Quoting.TheVariants.{Outside, Commented}
use Rattle.spv_annotate.specs.Html.{escaped, untagged}
use Rattle.spv_annotate.specs.Module.{inst_at, once}
use Rattle.spv_annotate.specs.Piece.{PlainPiece, Header, Section, Function, Block, Line, Comment, Mark, Break, text_of}
use Rattle.spv_annotate.specs.Page.{Scene, link_to, id_html, id_of, digits_in, behind_digits, part_html, linked}
use Rattle.spv_annotate.specs.Page.{cut_from, headed, bare_link, most_uses, use_links, line_class, is_walked, page_of}
use Rattle.spv_annotate.proofs.Parts.{joined}
use Rattle.spv_annotate.proofs.Reading.{Reads, reads_both, reads_each, reads_escaped, reads_tag, is_inside, inside_both}
use Rattle.spv_annotate.proofs.Reading.{decimal_inside}

-- an element that closes behind its HTML
closed : (tag end html text : List ℕ) → is_inside tag ≡ true → Reads end [] → Reads html text
    → Reads (60 ∷ (tag ++ (62 ∷ (html ++ end)))) text
closed tag end html text h e r more =
    reads_tag tag (html ++ end) (text ++ []) h (reads_both html end text [] r e) more
    ∙ ap (λ z. z ++ untagged more) (append-nil text)

reads_link : (n : ℕ) (html text : List ℕ) → Reads html text → Reads (link_to n html) text
reads_link n html text r more =
    closed (codes "a href=#" ++ decimal n) (codes "</a>") html text
    (inside_both (codes "a href=#") (decimal n) refl (decimal_inside n)) (λ m. refl) r more

reads_id : (o : Option ℕ) (word : List ℕ) → Reads (id_html o word) word
reads_id (Some n) word = reads_link n (escaped word) word (reads_escaped word)
reads_id None word = reads_escaped word

reads_part : (definition : ℕ → Option ℕ) (part : List ℕ) → Reads (part_html definition part) part
reads_part definition [] more = refl
reads_part definition (b ∷ text) more = by (b == 37) refl
  where
    o : Option ℕ
    o = option_and_then definition (id_of (digits_in text))

    whole : (37 ∷ digits_in text) ++ behind_digits text ≡ 37 ∷ text
    whole = ap (λ z. 37 ∷ z) (take-append-drop (prefix_len is_digit text) text)

    front : untagged ((id_html o (37 ∷ digits_in text) ++ escaped (behind_digits text)) ++ more) ≡ (37 ∷ text)
        ++ untagged more
    front = reads_both (id_html o (37 ∷ digits_in text)) (escaped (behind_digits text)) (37 ∷ digits_in text)
        (behind_digits text)
        (reads_id o (37 ∷ digits_in text)) (reads_escaped (behind_digits text)) more
        ∙ ap (λ z. z ++ untagged more) whole

    by : (x : Bool) → (b == 37) ≡ x → untagged (part_html definition (b ∷ text) ++ more) ≡ (b ∷ text) ++ untagged more
    by true e = rw e (rw (Rattle.spv_annotate.proofs.Parts.eq_by b 37 e) front)
    by false e = rw e (reads_escaped (b ∷ text) more)

pub reads_linked : (definition : ℕ → Option ℕ) (q : Quoting) (line : List ℕ) → Reads (linked definition q line) line
reads_linked definition q line more =
    reads_each (part_html definition) (λ w. w) (reads_part definition) (cut_from q line) more
    ∙ ap (λ z. z ++ untagged more) (joined q line)

reads_headed : (opcode : ℕ) (html text : List ℕ) → Reads html text → Reads (headed opcode html) text
reads_headed opcode html text r more = by (opcode == FUNCTION) (opcode == LABEL) refl refl
  where
    by : (x y : Bool) → (opcode == FUNCTION) ≡ x → (opcode == LABEL) ≡ y
        → untagged (headed opcode html ++ more) ≡ text ++ untagged more
    by true y e f = rw e (closed (codes "h2") (codes "</h2>") html text refl (λ m. refl) r more)
    by false true e f = rw (e, f) (closed (codes "h3") (codes "</h3>") html text refl (λ m. refl) r more)
    by false false e f = rw (e, f) (r more)

class_inside : (S : Scene) (n : ℕ) → is_inside (line_class S n) ≡ true
class_inside S n = by (is_number n S.fault) (is_walked S n) refl refl
  where
    by : (x y : Bool) → is_number n S.fault ≡ x → is_walked S n ≡ y → is_inside (line_class S n) ≡ true
    by true y e f = rw e refl
    by false true e f = rw (e, f) refl
    by false false e f = rw (e, f) refl

reads_line : (n : ℕ) (cls html text : List ℕ) → is_inside cls ≡ true → Reads html text
    → Reads (codes "<div id=" ++ (decimal n ++ (cls ++ (62 ∷ html)))) text
reads_line n cls html text h r more =
    let tag = codes "div id=" ++ (decimal n ++ cls) in
    let i : is_inside tag ≡ true = inside_both (codes "div id=") (decimal n ++ cls) refl
    (inside_both (decimal n) cls (decimal_inside n) h) in
    let e : decimal n ++ (cls ++ (62 ∷ html)) ≡ (decimal n ++ cls)
    ++ (62 ∷ html) = sym (append_assoc (decimal n) cls (62 ∷ html)) in
    ap (λ z. untagged ((codes "<div id=" ++ z) ++ more)) e ∙ reads_tag tag html text i r more

reads_bare : (n : ℕ) → Reads (bare_link n) []
reads_bare n = reads_tag (codes "a href=#" ++ decimal n) (codes "</a>") []
    (inside_both (codes "a href=#") (decimal n) refl (decimal_inside n)) (λ m. refl)

reads_all : (f : ℕ → List ℕ) → ((n : ℕ) → Reads (f n) []) → (ns : List ℕ) → Reads (flat_map f ns) []
reads_all f h [] = λ m. refl
reads_all f h (n ∷ ns) = reads_both (f n) (flat_map f ns) [] [] (h n) (reads_all f h ns)

reads_uses : (S : Scene) (n : ℕ) (o : Option ℕ) → Reads (use_links S n o) []
reads_uses S n None more = refl
reads_uses S n (Some x) more = by (is_number n (S.definition x)) refl
  where
    by : (b : Bool) → is_number n (S.definition x) ≡ b → untagged (use_links S n (Some x) ++ more) ≡ untagged more
    by true e = rw e (closed (codes "u") (codes "</u>") (flat_map bare_link (take most_uses (once (S.users x)))) [] refl
        (λ m. refl)
        (reads_all bare_link reads_bare (take most_uses (once (S.users x)))) more)
    by false e = rw e refl

-- HTML behind which nothing is read
and_nothing : (html end text : List ℕ) → Reads html text → Reads end [] → Reads (html ++ end) text
and_nothing html end text r e more =
    reads_both html end text [] r e more ∙ ap (λ z. z ++ untagged more) (append-nil text)

pub reads_piece : (S : Scene) (p : PlainPiece) → Reads (page_of S p) (text_of false p)
reads_piece S (Header t) = reads_tag (codes "div") (escaped t) t refl (reads_escaped t)
reads_piece S (Section n s) = λ m. refl
reads_piece S (Function n) = λ m. refl
reads_piece S (Block n) = λ m. refl
reads_piece S (Line n t) =
    let h = headed (inst_at S.insts n).opcode (linked S.definition Outside t) in
    let u = use_links S n (result_in (inst_at S.insts n).operands) in
    reads_line n (line_class S n) (h ++ u) t (class_inside S n)
    (and_nothing h u t (reads_headed (inst_at S.insts n).opcode (linked S.definition Outside t) t
    (reads_linked S.definition Outside t)) (reads_uses S n (result_in (inst_at S.insts n).operands)))
reads_piece S (Comment t) =
    closed (codes "i") (codes "</i>") (linked S.definition Commented t) t refl (λ m. refl)
    (reads_linked S.definition Commented t)
reads_piece S (Mark t) =
    reads_tag (codes "div class=fault") (linked S.definition Commented t) t refl (reads_linked S.definition Commented t)
reads_piece S Break = λ m. refl

-- the whole page, without its tags
pub reads_pieces : (S : Scene) (pieces : List PlainPiece)
    → untagged (flat_map (page_of S) pieces) ≡ flat_map (text_of false) pieces
reads_pieces S pieces =
    Rattle.spv_annotate.proofs.Reading.reads_whole (flat_map (page_of S) pieces) (flat_map (text_of false) pieces)
    (reads_each (page_of S) (text_of false) (reads_piece S) pieces)
