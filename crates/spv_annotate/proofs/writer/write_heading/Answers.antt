use Rattle.std.proofs.Common.{◌≡◌, ◌++◌, ◌∙◌, ℕ, List, [], ◌∷◌, ap, arith, drop, flat_map, length, length-drop, refl}
use Rattle.std.proofs.Common.{subst, sym, take}
use Rattle.std.proofs.lemmas.Result.{IfOk-weaker}
use Rattle.spv_lines.specs.Text.{header_lines, lines_of}
use Rattle.spv_annotate.specs.Document.{header_piece, told_header, version_line}
use Rattle.spv_annotate.specs.Piece.{IsWritten}
use Rattle.spv_annotate.proofs.Small.{drop_tail, no_lines, zero_by}
use Rattle.spv_annotate.proofs.Writings.{written_more}
use Rattle.spv_annotate.proofs.writer.write_heading.Goals as goal

first_of : (ls : List (List ℕ)) → take 1 ls ≡ take 1 (take 5 ls)
first_of [] = refl
first_of (l ∷ ls) = refl

last_of : (ls : List (List ℕ)) → take 3 (drop 2 ls) ≡ drop 2 (take 5 ls)
last_of [] = refl
last_of (a ∷ []) = refl
last_of (a ∷ b ∷ ls) = refl

behind : (ls : List (List ℕ)) → drop 3 (drop 2 ls) ≡ drop 5 ls
behind [] = refl
behind (a ∷ []) = refl
behind (a ∷ b ∷ ls) = refl

pub write_header-requires : goal.write_header-requires
write_header-requires g c = let l = c.requires.lines in omega (arith, l)

pub unreachable-requires : goal.unreachable-requires
unreachable-requires g c =
    let ls = lines_of c.args.text.now in
    let below = c.in_ok-below.below.now in
    let z = zero_by (length below) (sym c.is_empty.ensures ∙ c.if-is_empty.true) in
    let n = ap length (sym (no_lines below z) ∙ c.in_ok-below.ensures.rest) in
    let d = length-drop 1 ls in
    let l = c.requires.lines in
    omega (arith, n, d, l)

pub write_header-requires-2 : goal.write_header-requires-2
write_header-requires-2 g c =
    let e = ap length (sym c.in_ok-below.ensures.rest ∙ c.split_line.ensures.lines) in
    let d = length-drop 1 (lines_of c.args.text.now) in
    let l = c.requires.lines in
    omega (arith, e, d, l)

pub returns-clause-written : goal.returns-clause-written
returns-clause-written g c =
    let text = g.P.Pen.text in
    let writes = g.P.Pen.writes in
    let pen = c.args.pen.now in
    let one = c.write_header.new.pen in
    let two = c.write_version.new.pen in
    let last = c.write_header-2.new.pen in
    let t = c.args.task.now in
    let h = t.module.now.header in
    let ls = lines_of c.args.text.now in
    let rs = lines_of c.split_line.result.1.now in
    let v = version_line t.reach in
    let e = sym c.in_ok-below.ensures.rest ∙ c.split_line.ensures.lines in
    let first : take 1 ls ≡ take 1 (header_lines h) = first_of ls ∙ ap (take 1) c.requires.header in
    let later : take 3 rs ≡ drop 2 (header_lines h) =
    ap (take 3) (sym (drop_tail 1 ls rs c.split_line.result.0.now e)) ∙ (last_of ls ∙ ap (drop 2) c.requires.header) in
    IfOk-weaker c.write_header-2.result (λ _. IsWritten text writes (flat_map header_piece (take 3 rs)) two last)
    (λ _. IsWritten text writes (flat_map header_piece (told_header t.reach h)) pen last)
    (λ _ k. subst (λ (xs : List (List ℕ)). IsWritten text writes
    (flat_map header_piece xs ++ (header_piece v ++ flat_map header_piece (drop 2 (header_lines h)))) pen last) first
    (subst (λ (xs : List (List ℕ)). IsWritten text writes
    (flat_map header_piece (take 1 ls) ++ (header_piece v ++ flat_map header_piece xs)) pen last) later
    (written_more text writes (flat_map header_piece (take 1 ls)) (header_piece v ++ flat_map header_piece (take 3 rs))
    pen one last c.in_ok-below.ensures.written
    (written_more text writes (header_piece v) (flat_map header_piece (take 3 rs)) one two last
    c.in_ok-write_version.ensures k)))) c.write_header-2.ensures.written

pub returns-clause-rest : goal.returns-clause-rest
returns-clause-rest g c =
    let ls = lines_of c.args.text.now in
    let rs = lines_of c.split_line.result.1.now in
    let e = sym c.in_ok-below.ensures.rest ∙ c.split_line.ensures.lines in
    IfOk-weaker c.write_header-2.result (λ t. lines_of t.now ≡ drop 3 rs) (λ t. lines_of t.now ≡ drop 5 ls)
    (λ t k. k ∙ (ap (drop 3) (sym (drop_tail 1 ls rs c.split_line.result.0.now e)) ∙ behind ls))
    c.write_header-2.ensures.rest
