use Rattle.std.proofs.Common.{◌≡◌, true, List, ℕ, [], ◌∷◌, ◌++◌, take, sym, ap, ◌∙◌, arith}
use Rattle.std.proofs.lemmas.List.{take_more}
use Rattle.std.proofs.lemmas.Option.{get_or_from_slice_get}
use Rattle.std.specs.Str.{bytes_eq}
use Rattle.std.specs.Cmp.Lexicographic.{bytes_decides}
use Rattle.spv_grammar.proofs.shared.are_same.Goals as goal

pub loop-i-preserved : goal.loop-i-preserved
loop-i-preserved c =
    let xs = c.args.names.now in
    let ys = c.args.lent.now in
    let i = c.loop-i.i in
    let x : List ℕ = c.name.result.now in
    let y : List ℕ = c.index-lent-i.result in
    let alike : bytes_eq c.name.result.now c.as_str.result.now ≡ true = grind arith in
    let same : x ≡ y = (bytes_decides _ _).0 alike ∙ c.as_str.ensures in
    let here = get_or_from_slice_get xs i x x c.name.ensures in (
      take_more xs i x (omega (arith, c.loop-i.invariant.1)) ∙ ap (λ z. take i xs ++ z ∷ []) here ∙ ap (λ front. front ++ x ∷ []) c.loop-i.invariant.0
          ∙ ap (λ z. take i ys ++ z ∷ []) (same ∙ c.index-lent-i.is) ∙ sym (take_more ys i y (omega arith)),
      c.loop-i.invariant.1,
    )
