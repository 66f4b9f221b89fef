use Rattle.std.proofs.Common.{◌≡◌, ◌++◌, ◌∙◌, [], ◌∷◌, ℕ, List, Option, Some, None, option_map, ap, refl, true, false}
use Rattle.spvk.specs.Rules.{PutsIfAny}
use Rattle.spvk.specs.declared.static_text.StaticText.{StaticText}
use Rattle.spvk.proofs.status_text.spvk_raw_status_text.Goals as goal

said_there : (text : Option (List ℕ)) (octets : List ℕ) (old new : StaticText)
    → Some octets ≡ option_map (λ said. said ++ 0 ∷ []) text → new.octets ≡ Some octets → PutsIfAny text old new true
said_there None octets old new e o = let no : ⊥ = cc in absurd no
said_there (Some said) octets old new e o = PutsIfAny.put said refl (o ∙ e)

nothing_said : (text : Option (List ℕ)) (old : StaticText) → None ≡ option_map (λ (said : List ℕ). said ++ 0 ∷ []) text
    → PutsIfAny text old old false
nothing_said None old e = PutsIfAny.missing refl refl
nothing_said (Some said) old e = let no : ⊥ = cc in absurd no

pub returns-in-Some : goal.returns-in-Some
returns-in-Some c = said_there _ c.in-Some.said.now _ _ c.in-Some.ensures
    (c.of.ensures ∙ ap Some c.as_bytes.ensures.value)

pub returns-in-None : goal.returns-in-None
returns-in-None c = nothing_said _ _ c.in-None.ensures
