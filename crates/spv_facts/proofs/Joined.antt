-- One text after another, of which the last may fail.
use Rattle.std.proofs.Common.{◌≡◌, ◌++◌, ◌∙◌, ℕ, List, ap, append_assoc}
use Rattle.std.specs.Prelude.{OnOk, Ok, Err, is_ok, if◌then◌else◌}
use Rattle.std.specs.Prelude.{Result as Answer}

pub joined : {T E : Type 0} (r : Answer T E) (old mid new a b : List ℕ) → mid ≡ old ++ a → OnOk r (new ≡ mid ++ b)
    → OnOk r (new ≡ old ++ (a ++ b))
joined (Ok _) old mid new a b f g = g ∙ (ap (λ z. z ++ b) f ∙ append_assoc old a b)
joined (Err _) old mid new a b f g = tt

pub pushed : {T E : Type 0} (r : Answer T E) (old mid new a b : List ℕ) → mid ≡ old ++ a
    → new ≡ (if is_ok r then mid ++ b else mid) → OnOk r (new ≡ old ++ (a ++ b))
pushed (Ok _) old mid new a b f g = g ∙ (ap (λ z. z ++ b) f ∙ append_assoc old a b)
pushed (Err _) old mid new a b f g = tt
