-- The places and the definitions of the smallest kernel.
use Rattle.std.proofs.Common.{◌≡◌, ◌<◌, ◌≤◌, ℕ, zero, suc, List, [], ◌∷◌, Option, Some, None, MatchOption, refl, sym}
use Rattle.std.proofs.Common.{subst, arith, lit<, lit≤}
use Rattle.std.specs.Prelude.{slice_get}
use Rattle.std.proofs.lemmas.Option.{none-some, same_Some}
use Rattle.spv_module.specs.Module.{plain_insts}
use Rattle.spv_module.specs.declared.module.Module.{Module}
use Rattle.spv_layout.specs.declared.class.Class.{Class}
use Rattle.spv_layout.specs.declared.class.Class.TheVariants as class
use Rattle.spv_layout.specs.declared.place.Place.{Place}
use Rattle.spv_layout.specs.Layout.{classes}
use Rattle.spv_layout.specs.Place.{IsAt, IsOfBlock, IsOfFunction, IsOfSection, IsDefinition, first_word_of, section_of}
use Rattle.spv_layout.specs.Place.{terminators}
use Rattle.spv_layout.specs.Plan.{IsPlaceOf, IsPlan}
use Rattle.spv_layout.specs.Rows.{rows}
use Rattle.spv_ids.specs.declared.ids.Ids.{Ids}
use Rattle.spv_ids.specs.Outcome.{IsDefinitionOf, definition_in}
use Rattle.spv_check.specs.declared.flow.Flow.{Flow}
use Rattle.spv_check.specs.flow.Definitions.{CountsDefinitions}
use Rattle.spv_check.specs.Kernel.{grammar, kernel}
use Rattle.spv_check.proofs.Elements.{each}
use Rattle.spv_check.proofs.KernelRules.{laid, laid_out, at_class, function_only, label_there, in_function, definition}
use Rattle.spv_check.proofs.KernelRules.{fits, is_layout, ids_kept, flow_kept, calls_kept}
use Rattle.spv_check.specs.Checked.{AreParts}
use Rattle.spv_flow.specs.declared.branches.fork.Fork.TheVariants.{Distinct}
use Rattle.spv_extended.specs.declared.reach.Reach.TheVariants.{Profile}
use Rattle.spv_check.specs.Example.{place_at, kernel_places, kernel_program}
use Rattle.spv_check.proofs.Kernel.{kept}

class_at : (n : ℕ) (c : Class) → slice_get laid n ≡ Some c → slice_get (classes kernel) n ≡ Some c
class_at n c e = subst (λ (cs : List Class). slice_get cs n ≡ Some c) (sym laid_out) e

label_only : (n : ℕ) → IsAt kernel n (class.Label ∷ []) → n ≡ 7
label_only n a = at_class (λ m. m ≡ 7) (class.Label ∷ [])
    (tt, (tt, (tt, (tt, (tt, (tt, (tt, (refl, (tt, (tt, tt)))))))))) n a

terminator_only : (n : ℕ) → IsAt kernel n terminators → n ≡ 8
terminator_only n a =
    at_class (λ m. m ≡ 8) terminators (tt, (tt, (tt, (tt, (tt, (tt, (tt, (tt, (refl, (tt, tt)))))))))) n a

return_there : IsAt kernel 8 terminators
unfolding rows
return_there = refl

outside : (n : ℕ) → n < 6 → (f : ℕ) → ¬ (IsOfFunction kernel n f)
outside n l f o = let e = function_only f o.begun.there in let u = o.begun.up_to in omega (arith, l, e, u)

no_block : (n : ℕ) → n < 7 → (b : ℕ) → ¬ (IsOfBlock kernel n b)
no_block n l b o = let e = label_only b o.begun.there in let u = o.begun.up_to in omega (arith, l, e, u)

in_block : (n : ℕ) → 7 ≤ n → n ≤ 8 → IsOfBlock kernel n 7
in_block n l h = record {
  begun = record {
    within = omega (arith, h);
    up_to = l;
    there = label_there;
    last = λ k a b c.
        let e = label_only k c in absurd (omega (arith, a, e));
  };
  not_ended = λ k a b c. let e = terminator_only k c in absurd (omega (arith, b, h, e));
}

past_block : (b : ℕ) → ¬ (IsOfBlock kernel 9 b)
past_block b o = let e = label_only b o.begun.there in o.not_ended 8 (omega (arith, e)) (lit< tt) return_there

early : (n : ℕ) (c : Class) (s w : ℕ) → n < 6 → slice_get laid n ≡ Some c → section_of c ≡ Some s
    → w ≡ first_word_of kernel n → IsPlaceOf kernel n (place_at s None None w)
early n c s w l a b e =
    record {
      section = IsOfSection.early c s (class_at n c a) b;
      function = outside n l;
      block = no_block n (omega (arith, l));
      word = e;
    }

global : (n w : ℕ) → n < 6 → slice_get laid n ≡ Some class.Declaration → w ≡ first_word_of kernel n
    → IsPlaceOf kernel n (place_at 11 None None w)
global n w l a e = record {
  section = IsOfSection.global class.Declaration (class_at n class.Declaration a) refl
      (λ f o. let q = function_only f o.there in let u = o.up_to in omega (arith, l, q, u));
  function = outside n l;
  block = no_block n (omega (arith, l));
  word = e;
}

inside : (n : ℕ) (c : Class) (block : Option ℕ) (w : ℕ) → 6 ≤ n → n ≤ 9 → slice_get laid n ≡ Some c
    → section_of c ≡ None
    → MatchOption block ((b : ℕ) → ¬ (IsOfBlock kernel n b)) (λ b. IsOfBlock kernel n b) → w ≡ first_word_of kernel n
    → IsPlaceOf kernel n (place_at 13 (Some 6) block w)
inside n c block w l h a b d e = record {
  section = IsOfSection.definition c 6 (class_at n c a) b (in_function n l h).begun definition;
  function = in_function n l h;
  block = d;
  word = e;
}

pub planned : IsPlan grammar kernel kernel_places
planned = record {
  fits = fits;
  layout = is_layout;
  count = refl;
  place =
      each (λ n (p : Place). IsPlaceOf kernel n p) kernel_places (
        early 0 class.Capability 1 5 (lit< tt) refl refl refl,
        (
          early 1 class.Capability 1 7 (lit< tt) refl refl refl,
          (
            early 2 class.MemoryModel 4 9 (lit< tt) refl refl refl,
            (
              early 3 class.EntryPoint 5 12 (lit< tt) refl refl refl,
              (
                global 4 16 (lit< tt) refl refl,
                (
                  global 5 18 (lit< tt) refl refl,
                  (
                    inside 6 class.Function None 21 (lit≤ tt) (lit≤ tt) refl refl (no_block 6 (lit< tt)) refl,
                    (
                      inside 7 class.Label (Some 7) 26 (lit≤ tt) (lit≤ tt) refl refl
                          (in_block 7 (lit≤ tt) (lit≤ tt)) refl,
                      (
                        inside 8 class.Return (Some 7) 28 (lit≤ tt) (lit≤ tt) refl refl
                            (in_block 8 (lit≤ tt) (lit≤ tt)) refl,
                        (inside 9 class.FunctionEnd None 29 (lit≤ tt) (lit≤ tt) refl refl past_block refl, tt),
                      ),
                    ),
                  ),
                ),
              ),
            ),
          ),
        ),
      );
}

-- The one definition is that of instruction 6.

one_there : (k f : ℕ) → slice_get (6 ∷ []) k ≡ Some f → IsDefinition kernel f × (f < 10)
one_there zero f e = let same : 6 ≡ f = same_Some 6 f e in
    subst (λ g. IsDefinition kernel g × (g < 10)) same (definition, lit< tt)
one_there (suc k) f e = absurd (none-some f e)

one_at : (k f : ℕ) → slice_get (6 ∷ []) k ≡ Some f → k ≡ 0
one_at zero f e = refl
one_at (suc k) f e = absurd (none-some f e)

definitions : CountsDefinitions kernel 1
definitions = record {
  functions = 6 ∷ [];
  definitions = record {
    each = one_there;
    all = λ f l d. (0, let e = function_only f d.of.begun.there in subst (λ (g : ℕ). Some 6 ≡ Some g) (sym e) refl);
    rising = λ j k f g l a b. let p = one_at k g b in absurd (omega (arith, l, p));
  };
  counted = refl;
}

pub parts : (m : Module) (ids : Ids) (flow : Flow) → m.header.bound ≡ 5 → plain_insts m ≡ kernel
    → ((x : ℕ) → IsDefinitionOf kernel x (definition_in ids x)) → flow.definitions ≡ 1
    → AreParts grammar Profile kernel_program m kernel_places ids flow
parts m ids flow bound insts each count = record {
  bound = bound;
  insts = insts;
  kept = kept;
  plan = planned;
  numbered = record { unbroken = λ r n s b. ids_kept r n b; each = each };
  flowing = record {
    branches = λ r n s b. flow_kept Distinct r n b;
    values = λ r n s b. flow_kept Distinct r n b;
    calls = λ r n s b. calls_kept r n b;
    definitions = subst (CountsDefinitions kernel) (sym count) definitions;
  };
}
