use Rattle.std.proofs.Common.{◌≡◌, ◌≤◌, ◌++◌, ◌+◌, ◌*◌, ◌%◌, ◌-◌, ◌∙◌, ℕ, List, Option, Some, None, IfSome, length, take, drop, ap, sym, append_assoc, arith, min, refl}
use Rattle.std.proofs.lemmas.List.{length-take-le, take-take, length-drop}
use Rattle.std.proofs.Math.Seq.{take-length, take-append-add}
use Rattle.std.specs.Io.KnownBytes.{Appends}
use Rattle.spv_words.specs.Words.{StandFor, turned}
use Rattle.spv_words.proofs.Standing.{turned-part, length-turned}
use Rattle.spv_words.specs.Streams.{HoldsBytes}
use Rattle.spv_words.specs.declared.words.Order.{Order}

-- so many of the bytes were written
pub record Written (old new : Option (List ℕ)) (bytes : List ℕ) (at : ℕ) : Type 0 where
  pub fits : at ≤ length bytes
  pub front : IfSome old (λ xs. new ≡ Some (xs ++ take at bytes))

pub more : (old new next : Option (List ℕ)) (bytes part : List ℕ) (at n : ℕ) → Written old new bytes at → at + n ≤ length bytes → Appends new next part
    → take at bytes ++ part ≡ take (at + n) bytes → Written old next bytes (at + n)
more None new next bytes part at n w f a e = record { fits = f; front = tt }
more (Some xs) None next bytes part at n w f a e = cc
more (Some xs) (Some ys) None bytes part at n w f a e = absurd a
more (Some xs) (Some ys) (Some zs) bytes part at n w f a e =
    let q : ys ≡ xs ++ take at bytes = cc in
    record { fits = f; front = ap Some (a ∙ (rw (q, ← e) (append_assoc xs (take at bytes) part))) }

-- so many of the turned bytes were written, and no call failed
pub record TurnedSoFar (old new : Option (List ℕ)) (before after : ℕ) (bytes : List ℕ) (at : ℕ) : Type 0 where
  pub written : Written old new (turned bytes) at
  pub fits : at ≤ length bytes
  pub whole : at % 4 ≡ 0
  pub count : after ≡ before

-- all the bytes of the words were written
pub holds_all : (o : Order) (old new : Option (List ℕ)) (bytes words : List ℕ) → StandFor o bytes words → Appends old new bytes
    → IfSome old (λ xs. HoldsBytes o words xs new (4 * length words))
holds_all o None new bytes words s a = tt
holds_all o (Some xs) None bytes words s a = absurd a
holds_all o (Some xs) (Some ys) bytes words s a = let w = s.whole in record {
  bytes = bytes;
  stands = s;
  fits = omega arith;
  front = ap Some (rw (← w, take-length bytes) a);
}

-- a beginning of them was
pub holds_begun : (o : Order) (old new : Option (List ℕ)) (bytes words : List ℕ) (most : ℕ) → most ≤ length bytes → StandFor o bytes words
    → IfSome old (λ xs. (n : ℕ) × (n ≤ most) × (new ≡ Some (xs ++ take n bytes))) → IfSome old (λ xs. (n : ℕ) × HoldsBytes o words xs new n)
holds_begun o None new bytes words most l s b = tt
holds_begun o (Some xs) new bytes words most l s b = let f = b.1 in (b.0, record { bytes = bytes; stands = s; fits = omega arith; front = b.2 })

-- a front of a part, after what was before it
front_of : (bytes part : List ℕ) (at n m : ℕ) → length (take at bytes) ≡ at → take at bytes ++ part ≡ take (at + n) bytes → m ≤ n
    → take (at + m) bytes ≡ take at bytes ++ take m part
front_of bytes part at n m long e h =
    let seam : take (length (take at bytes) + m) (take at bytes ++ part) ≡ take at bytes ++ take m part = take-append-add (take at bytes) part m in
    let same : take (at + m) (take at bytes ++ part) ≡ take at bytes ++ take m part = rw long at seam in
    let less : take (at + m) (take (at + n) bytes) ≡ take (at + m) bytes = take-take (at + m) (at + n) bytes (omega arith) in
    sym less ∙ (ap (λ (xs : List ℕ). take (at + m) xs) (sym e) ∙ same)

-- a beginning of a turned block was written
pub part_begun : (old middle new : Option (List ℕ)) (bytes part : List ℕ) (at n : ℕ) → Written old middle (turned bytes) at → at + n ≤ length bytes → length bytes % 4 ≡ 0
    → length part ≡ n → take at (turned bytes) ++ part ≡ take (at + n) (turned bytes)
    → IfSome middle (λ xs. (m : ℕ) × (m ≤ length part) × (new ≡ Some (xs ++ take m part)))
    → IfSome old (λ xs. (m : ℕ) × (m ≤ length bytes) × (new ≡ Some (xs ++ take m (turned bytes))))
part_begun None middle new bytes part at n w h g size e b = tt
part_begun (Some xs) None new bytes part at n w h g size e b = cc
part_begun (Some xs) (Some ys) new bytes part at n w h g size e b =
    let f = b.1 in
    let q : ys ≡ xs ++ take at (turned bytes) = cc in
    let long : length (take at (turned bytes)) ≡ at = length-take-le at (turned bytes) w.fits in
    let front : take (at + b.0) (turned bytes) ≡ take at (turned bytes) ++ take b.0 part = front_of (turned bytes) part at n b.0 long e (omega arith) in
    (at + b.0, omega arith, b.2 ∙ ap Some (rw (q, front) (append_assoc xs (take at (turned bytes)) (take b.0 part))))

-- a turned block
block : (bytes part : List ℕ) (at n m : ℕ) → at ≤ length bytes → at % 4 ≡ 0 → length bytes % 4 ≡ 0 → n ≡ min (length bytes - at) 4096 → m ≡ n → part ≡ turned (take m (drop at bytes))
    → (at + n ≤ length bytes) × (n % 4 ≡ 0) × (take at (turned bytes) ++ part ≡ take (at + n) (turned bytes)) × (length part ≡ n)
block bytes part at n m f g h e k p =
    let fits : at + n ≤ length bytes = omega arith in
    let whole : n % 4 ≡ 0 = omega arith in
    let rest : n ≤ length (drop at bytes) = rw (length-drop at bytes) (omega arith) in
    let long : length (take n (drop at bytes)) ≡ n = length-take-le n (drop at bytes) rest in
    (fits, whole, rw (p, k) (turned-part bytes at n g whole fits), rw (p, k) (length-turned (take n (drop at bytes)) (rw long whole) ∙ long))

pub turned_step : (old middle new : Option (List ℕ)) (before after next : ℕ) (bytes part : List ℕ) (at n m : ℕ) → TurnedSoFar old middle before after bytes at
    → length bytes % 4 ≡ 0 → n ≡ min (length bytes - at) 4096 → m ≡ n → part ≡ turned (take m (drop at bytes)) → Appends middle new part → next ≡ after
    → TurnedSoFar old new before next bytes (at + n)
turned_step old middle new before after next bytes part at n m t h e k p a s =
    let b = block bytes part at n m t.fits t.whole h e k p in
    let l = length-turned bytes h in
    let f = b.0 in
    record {
      written = more old middle new (turned bytes) part at n t.written (omega arith) a b.2;
      fits = f;
      whole = omega (arith, b.1, t.whole);
      count = s ∙ t.count;
    }

pub turned_begun : (old middle new : Option (List ℕ)) (before after : ℕ) (bytes part : List ℕ) (at n m : ℕ) → TurnedSoFar old middle before after bytes at
    → length bytes % 4 ≡ 0 → n ≡ min (length bytes - at) 4096 → m ≡ n → part ≡ turned (take m (drop at bytes))
    → IfSome middle (λ xs. (m : ℕ) × (m ≤ length part) × (new ≡ Some (xs ++ take m part)))
    → IfSome old (λ xs. (m : ℕ) × (m ≤ length bytes) × (new ≡ Some (xs ++ take m (turned bytes))))
turned_begun old middle new before after bytes part at n m t h e k p i =
    let b = block bytes part at n m t.fits t.whole h e k p in
    part_begun old middle new bytes part at n t.written b.0 h b.3 b.2 i

-- all of them
pub written_all : (old new : Option (List ℕ)) (bytes : List ℕ) (at : ℕ) → Written old new bytes at → length bytes ≤ at → Appends old new bytes
written_all None new bytes at w h = tt
written_all (Some xs) None bytes at w h = cc
written_all (Some xs) (Some ys) bytes at w h =
    let f = w.fits in
    let e : at ≡ length bytes = omega arith in
    let q : ys ≡ xs ++ take at bytes = cc in
    rw (q, e, take-length bytes) refl
