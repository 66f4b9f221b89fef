-- A mask of one bit is shown as its enumerant's name.
use Rattle.std.proofs.Common.{◌≡◌, ◌≢◌, ◌∙◌, ℕ, List, [], ◌∷◌, Option, Some, None, true, false, nat_eq, option_map}
use Rattle.std.proofs.Common.{option_and_then, is_some, refl, sym, ap, arith}
use Rattle.std.specs.Prelude.{unwrap_or}
use Rattle.std.proofs.lemmas.Bool.Decides.{nat_tests}
use Rattle.spv_table.specs.declared.table.Enumerant.{Enumerant}
use Rattle.spv_table.specs.Table.{enumerant_of}
use Rattle.spv_module.specs.Spelling.{set_bits}
use Rattle.spv_lines.specs.Name.{joined, by_number, mask_values, first_name, first_names, names_from, shown_value}
use Rattle.spv_lines.specs.Name.{shown_mask}
use Rattle.spv_printer.proofs.BitNames.{named_shown}

alone_by : (o : Option (List ℕ)) (t : List ℕ)
    → unwrap_or (option_map joined (option_and_then (λ t. option_map (λ ts. t ∷ ts) (Some [])) o)) t ≡ unwrap_or o t
alone_by None t = refl
alone_by (Some u) t = refl

alone_some : (o : Option (List ℕ))
    → is_some (option_and_then (λ t. option_map (λ (ts : List (List ℕ)). t ∷ ts) (Some [])) o) ≡ true → is_some o ≡ true
alone_some None h = h
alone_some (Some u) h = refl

values_of : (x : ℕ) → x ≢ 0 → mask_values x ≡ set_bits x
values_of x n = let e : nat_eq x 0 ≡ false = grind (arith, nat_tests) in rw e refl

all_names : (es : List Enumerant) (mask : ℕ) → names_from es mask 0 ≡ first_names es (set_bits mask)
unfolding names_from
all_names es mask = refl

pub bit_shown : (es : List Enumerant) (x : ℕ) (e : Enumerant) → x ≢ 0 → set_bits x ≡ x ∷ []
    → is_some (names_from es x 0) ≡ true → enumerant_of es x ≡ Some e → shown_mask es x ≡ e.name
bit_shown es x e n b h f =
    let s = b in
    let m : first_names es (set_bits x) ≡ first_names es (x ∷ []) = ap (first_names es) s in
    let k : is_some (first_name es x) ≡ true = alone_some (first_name es x)
    (ap is_some (sym m) ∙ (ap is_some (sym (all_names es x)) ∙ h)) in
    let v : shown_mask es x ≡ shown_value es x =
    ap (λ bs. unwrap_or (option_map joined (first_names es bs)) (by_number x)) (values_of x n ∙ s)
    ∙ alone_by (first_name es x) (by_number x) in
    v ∙ named_shown es x e f k
