-- What calls that may fail add.
use Rattle.std.proofs.Common.{◌≡◌, ◌++◌, ◌∙◌, ℕ, List, ap, append_assoc}
use Rattle.std.specs.Prelude.{Result as Answer, Ok, Err, IfOk, OnOk, is_ok, if◌then◌else◌}

pub on_pushed : {T E : Type 0} (r : Answer T E) (P : Type 0) (out old t : List ℕ)
    → out ≡ (if is_ok r then old ++ t else old) → (out ≡ old ++ t → P) → OnOk r P
on_pushed (Ok _) P out old t e f = f e
on_pushed (Err _) P out old t e f = tt

pub on_ok : {T E : Type 0} (r : Answer T E) (P Q : Type 0) → OnOk r P → (P → Q) → OnOk r Q
on_ok (Ok _) P Q h f = f h
on_ok (Err _) P Q h f = tt

pub if_ok : {T E : Type 0} (r : Answer T E) (P Q : T → Type 0) → IfOk r P → ((t : T) → P t → Q t) → IfOk r Q
if_ok (Ok t) P Q h f = f t h
if_ok (Err _) P Q h f = tt

pub two : (old a b x y : List ℕ) → x ≡ old ++ a → y ≡ x ++ b → y ≡ old ++ (a ++ b)
two old a b x y e f = f ∙ (ap (λ z. z ++ b) e ∙ append_assoc old a b)

pub three : (old a b c x y z : List ℕ) → x ≡ old ++ a → y ≡ x ++ b → z ≡ y ++ c → z ≡ old ++ (a ++ (b ++ c))
three old a b c x y z e f g = two old a (b ++ c) x z e (two x b c y z f g)
