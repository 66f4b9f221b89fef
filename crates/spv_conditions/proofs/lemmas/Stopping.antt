-- Where the indexes of an access chain stop.
use Rattle.std.proofs.Common.{◌≡◌, ◌<◌, ◌+◌, ◌↔◌, ℕ, zero, suc, List, [], ◌∷◌, Option, Some, None, Bool, true, false}
use Rattle.std.proofs.Common.{refl, take, arith, option_and_then}
use Rattle.std.specs.Prelude.{IsSome, option_map, unwrap_or}
use Rattle.spv_module.specs.Operand.{PlainInst}
use Rattle.spv_type_kinds.specs.Operands.{ids_in, after_head}
use Rattle.spv_conditions.specs.declared.chain.Stops.{Stops}
use Rattle.spv_conditions.specs.Chain.{chosen_of, led_from, led_by, base_in, indexes_in}
use Rattle.spv_conditions.specs.Stops.{stop_from, stop_of, IsBefore, AreStops}

-- where the numbers begin at j, what is below j comes before
early : (is : List PlainInst) (xs : List ℕ) (j t k : ℕ) → k < j → IsBefore k (stop_from is j xs t)
early is [] j t k l = tt
early is (x ∷ xs) j t k l = next (chosen_of is t x) (λ u. early is xs (j + 1) u k (omega arith)) where
  next : (o : Option ℕ) → ((u : ℕ) → IsBefore k (stop_from is (j + 1) xs u))
      → IsBefore k (unwrap_or (option_map (λ u. stop_from is (j + 1) xs u) o) (Some j))
  next None on = l
  next (Some u) on = on u

-- the first index, and those after it
after_one : (is : List PlainInst) (xs : List ℕ) (j : ℕ)
    → ((u m : ℕ) → IsBefore (j + 1 + m) (stop_from is (j + 1) xs u) ↔ IsSome (led_from is (take (suc m) xs) u))
    → (o : Option ℕ) (k : ℕ)
    → IsBefore (j + k) (unwrap_or (option_map (λ u. stop_from is (j + 1) xs u) o) (Some j))
    ↔ IsSome (option_and_then (led_from is (take k xs)) o)
after_one is xs j rest None k =
    (λ l. absurd (let m : j + k < j = l in omega arith), λ h. absurd (let no : false ≡ true = h in cc))
after_one is xs j rest (Some u) zero = (λ l. refl, λ h. early is xs (j + 1) u (j + 0) (omega arith))
after_one is xs j rest (Some u) (suc m) = let e : j + suc m ≡ j + 1 + m = omega arith in rw e (rest u m)

leads_before : (is : List PlainInst) (xs : List ℕ) (j t k : ℕ)
    → IsBefore (j + k) (stop_from is j xs t) ↔ IsSome (led_from is (take (suc k) xs) t)
leads_before is [] j t k = (λ l. refl, λ h. tt)
leads_before is (x ∷ xs) j t k = after_one is xs j (λ u m. leads_before is xs (j + 1) u m) (chosen_of is t x) k

-- index k comes before the one at which the indexes stop exactly where those up to it lead to a type
stops : (is : List PlainInst) (ids types : List ℕ) (element : Bool) (k : ℕ)
    → IsBefore k (stop_of is (base_in is types) (indexes_in element ids)) ↔ IsSome (led_by is element ids types (k + 1))
stops is ids types element k = of (base_in is types) (indexes_in element ids) where
  of : (base : Option ℕ) (indexes : Option (List ℕ))
      → IsBefore k (stop_of is base indexes)
      ↔ IsSome (option_and_then (λ ys. option_and_then (led_from is (take (k + 1) ys)) base) indexes)
  of None None = (λ l. absurd (let m : k < 0 = l in omega arith), λ h. absurd (let no : false ≡ true = h in cc))
  of None (Some ys) = (λ l. absurd (let m : k < 0 = l in omega arith), λ h. absurd (let no : false ≡ true = h in cc))
  of (Some t) None = (λ l. absurd (let m : k < 0 = l in omega arith), λ h. absurd (let no : false ≡ true = h in cc))
  of (Some t) (Some ys) = let e : 0 + k ≡ k = omega arith in let f : k + 1 ≡ suc k = omega arith in
      rw f (rw e at (leads_before is ys 0 t k))

pub are_stops : (is : List PlainInst) (i : PlainInst) (types : List ℕ) (s : Stops) (base : Option ℕ)
    (xs ys : Option (List ℕ)) → s.with_element ≡ stop_of is base xs → s.without ≡ stop_of is base ys
    → base ≡ base_in is types → xs ≡ indexes_in true (ids_in (after_head i.operands))
    → ys ≡ indexes_in false (ids_in (after_head i.operands)) → AreStops is i types s
are_stops is i types s base xs ys a b e f g true k =
    rw (a, e, f) (stops is (ids_in (after_head i.operands)) types true k)
are_stops is i types s base xs ys a b e f g false k =
    rw (b, e, g) (stops is (ids_in (after_head i.operands)) types false k)
