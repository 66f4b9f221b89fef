use Rattle.std.proofs.Common.{◌≡◌, ◌≤◌, ◌++◌, ◌∙◌, sym, ap, subst, refl, ℕ, List, Option, Some, None, IfSome, length, take, ◌+◌, arith}
use Rattle.std.proofs.lemmas.List.{append-nil, drop_at, length-take, length-append}
use Rattle.spv_words.proofs.Groups.{Consumes-append}
use Rattle.std.specs.Io.KnownBytes.{Consumes, Keeps, IsAtEnd}
use Rattle.spv_words.specs.Streams.{GaveAtMost}

-- so many bytes were read, and no call failed
pub record SoFar {R : Type 0} (remaining : R → Option (List ℕ)) (failures : R → ℕ) (old new : R) (bytes : List ℕ) : Type 0 where
  pub known : Consumes (remaining old) (remaining new) bytes
  pub count : failures new ≡ failures old
  pub most : length bytes ≤ 16777217

-- what holds of the bytes that were read to the end holds of all the bytes of the reader
pub ends : (old new : Option (List ℕ)) (bytes : List ℕ) (P : List ℕ → Type 0) → Consumes old new bytes → IsAtEnd new → P bytes → IfSome old P
ends None new bytes P c e p = tt
ends (Some xs) None bytes P c e p = absurd c
ends (Some xs) (Some ys) bytes P c e p = subst P (sym (c ∙ (ap (λ zs. bytes ++ zs) e ∙ append-nil bytes))) p

-- what was kept was not consumed
pub kept : (x y z : Option (List ℕ)) (bs : List ℕ) → Consumes x y bs → Keeps y z → Consumes x z bs
kept None y z bs c k = tt
kept (Some xs) None z bs c k = absurd c
kept (Some xs) (Some ys) None bs c k = absurd k
kept (Some xs) (Some ys) (Some zs) bs c k = rw k c

-- the bytes that were consumed are a front of those that were left
pub gave : (n : ℕ) (old new : Option (List ℕ)) (bytes : List ℕ) → Consumes old new bytes → length bytes ≤ n → IfSome old (λ xs. GaveAtMost n xs new)
gave n None new bytes c h = tt
gave n (Some xs) None bytes c h = absurd c
gave n (Some xs) (Some ys) bytes c h = record { given = length bytes; most = h; rest = ap Some (rw (c, drop_at bytes ys (length bytes) refl) refl) }

-- so are those of two goes
pub gave_more : (n m : ℕ) (old middle new : Option (List ℕ)) (bytes block : List ℕ) → Consumes old middle bytes → Consumes middle new (take m block)
    → length bytes + m ≤ n → IfSome old (λ xs. GaveAtMost n xs new)
gave_more n m old middle new bytes block c d h =
    let f = length-take m block in
    gave n old new (bytes ++ take m block) (Consumes-append old middle new bytes (take m block) c d) (rw (length-append bytes (take m block)) (omega arith))
