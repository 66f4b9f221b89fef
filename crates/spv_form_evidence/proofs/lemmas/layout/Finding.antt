-- As far as instructions were looked at.
use Rattle.std.proofs.Common.{◌≡◌, ◌∙◌, ◌++◌, ◌<◌, ◌+◌, ℕ, List, [], ◌∷◌, sym, ap, subst, Some}
use Rattle.std.proofs.Common.{None, length, take, drop, map, get_or, append_assoc}
use Rattle.std.proofs.Math.Seq.{take-length}
use Rattle.spv_module.specs.declared.module.Inst.{Inst}
use Rattle.spv_module.specs.declared.profile.Profile.{Profile}
use Rattle.spv_module.specs.Module.{plain_inst}
use Rattle.spv_layout.specs.declared.state.State.{State}
use Rattle.spv_layout.specs.Layout.{BeginsLayout, class_under, seen_classes}
use Rattle.spv_layout.specs.inner.State.{next_of}
use Rattle.spv_layout.proofs.Layouts.{leads_nowhere}
use Rattle.spv_layout.proofs.Dead.{front_begins}
use Rattle.spv_layout.proofs.Slices.{leads_take, plain_seam}
use Rattle.spv_form_evidence.specs.layout.inner.Automaton.{LeadsTo}
use Rattle.spv_form_evidence.proofs.lemmas.layout.States.{as_leads, leads_to}
use Rattle.spv_form_evidence.proofs.lemmas.layout.Sufficing.{one_more}

-- one instruction more
pub leads_more : (p : Profile) (is : List Inst) (n : ℕ) (i : Inst) (s t : State) → n < length is → i ≡ get_or is n i
    → next_of s (class_under p i.opcode) ≡ Some t
    → LeadsTo (seen_classes p (map plain_inst (take n is))) s
    → LeadsTo (seen_classes p (map plain_inst (take (n + 1) is))) t
leads_more p is n i s t h e g l = leads_to _ t (leads_take p is n i s t h e g (as_leads _ s l))

pub leads_all : (p : Profile) (is : List Inst) (n : ℕ) (s : State) → n ≡ length is
    → LeadsTo (seen_classes p (map plain_inst (take n is))) s → LeadsTo (seen_classes p (map plain_inst is)) s
leads_all p is n s e l = subst (λ (xs : List Inst). LeadsTo (seen_classes p (map plain_inst xs)) s)
    (ap (λ k. take k is) e ∙ take-length is) l

-- an instruction with which no module goes on
pub nowhere : (p : Profile) (is : List Inst) (n : ℕ) (i : Inst) (s : State) → n < length is → i ≡ get_or is n i
    → next_of s (class_under p i.opcode) ≡ None
    → LeadsTo (seen_classes p (map plain_inst (take n is))) s
    → ¬ (BeginsLayout (seen_classes p (map plain_inst is)))
nowhere p is n i s h e g l b =
    let before = map plain_inst (take n is) in
    let rest = map plain_inst (drop (n + 1) is) in
    let whole : map plain_inst is ≡ (before ++ (plain_inst i ∷ [])) ++ rest = sym (plain_seam is n i h e) ∙ simp
    append_assoc in
    let f : BeginsLayout (seen_classes p (before ++ (plain_inst i ∷ []))) = front_begins p
    (before ++ (plain_inst i ∷ [])) rest (map plain_inst is) whole b in
    leads_nowhere (seen_classes p before) s (class_under p i.opcode) g (as_leads _ s l)
    (subst BeginsLayout (one_more p before (plain_inst i)) f)
