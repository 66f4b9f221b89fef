-- What pens write, one piece behind the other.
use Rattle.std.proofs.Common.{◌≡◌, ◌++◌, ◌∙◌, ℕ, List, [], ◌∷◌, refl, sym, ap, append_assoc}
use Rattle.std.specs.List.{flat_map}
use Rattle.std.proofs.lemmas.Grind.{flat_map-append}
use Rattle.spv_annotate.specs.Piece.{IsWritten, PlainPiece}

module _ {T : Type 0} (text : T → List ℕ) (writes : T → PlainPiece → List ℕ) where
  nothing_behind : (xs : List ℕ) → xs ≡ xs ++ []
  nothing_behind [] = refl
  nothing_behind (x ∷ xs) = ap (λ ys. x ∷ ys) (nothing_behind xs)

  pub written_nothing : (p : T) → IsWritten text writes [] p p
  written_nothing p = record { same = refl; all = nothing_behind (text p) }

  pub written_more : (ps qs : List PlainPiece) (a b c : T) → IsWritten text writes ps a b → IsWritten text writes qs b c
      → IsWritten text writes (ps ++ qs) a c
  written_more ps qs a b c h g = record {
    same = g.same ∙ h.same;
    all =
        g.all ∙ (ap (λ f. text b ++ flat_map f qs) h.same ∙ (ap (λ t. t ++ flat_map (writes a) qs) h.all
        ∙ (append_assoc (text a) (flat_map (writes a) ps) (flat_map (writes a) qs)
        ∙ ap (λ t. text a ++ t) (sym (flat_map-append (writes a) ps qs)))));
  }
