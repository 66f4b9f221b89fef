-- The state that a list of classes leads to, and what it says of the next instruction.
use Rattle.std.proofs.Common.{◌≡◌, ◌++◌, ◌↔◌, ℕ, List, [], ◌∷◌, refl, sym, subst, Bool, true, false, IsTrue, Option}
use Rattle.std.proofs.Common.{if◌then◌else◌}
use Rattle.std.proofs.Common.{Some, None, append-nil, append_assoc}
use Rattle.std.specs.Prelude.{is_some}
use Rattle.spv_module.specs.Operand.{PlainInst}
use Rattle.spv_module.specs.declared.profile.Profile.{Profile}
use Rattle.spv_layout.specs.declared.class.Class.{Class}
use Rattle.spv_layout.specs.declared.class.Class.TheVariants.{Outside}
use Rattle.spv_layout.specs.declared.state.State.{State}
use Rattle.spv_layout.specs.declared.state.State.TheVariants as at
use Rattle.spv_layout.specs.Rows.{row_of, class_of}
use Rattle.spv_layout.specs.Profile as profiles
use Rattle.spv_layout.specs.Layout.{IsLayout, BeginsLayout, class_under, seen, seen_classes}
use Rattle.spv_layout.specs.inner.State.{next_of, may_stop}
use Rattle.spv_layout.specs.inner.Pass.{Leads}
use Rattle.spv_layout.proofs.Layouts.{leads_first, leads_on, leads_begin, leads_nowhere, leads_end}
use Rattle.spv_layout.proofs.Layouts.{leads_no_end, begins_before}
use Rattle.spv_form_evidence.specs.layout.Evidence.{HasRow, MayFollow}
use Rattle.spv_form_evidence.specs.layout.inner.Automaton.{LeadsTo, may_follow}

pub as_leads : (cs : List Class) (s : State) → LeadsTo cs s → Leads cs s
as_leads cs s l = record { forth = l.forth; back = l.back }

pub leads_to : (cs : List Class) (s : State) → Leads cs s → LeadsTo cs s
leads_to cs s l = record { forth = l.forth; back = l.back }

-- a list of classes that begins a module leads to a state
pub record StateOf (cs : List Class) : Type 0 where
  pub state : State
  pub leads : Leads cs state

goes_by : (o : Option State) (c : Class) (later before : List Class) (s : State) → next_of s c ≡ o → Leads before s
    → BeginsLayout (before ++ (c ∷ later))
    → ((cs : List Class) (t : State) → Leads cs t → BeginsLayout (cs ++ later) → StateOf (cs ++ later))
    → StateOf (before ++ (c ∷ later))
goes_by None c later before s e l b rest =
    let moved = subst BeginsLayout (sym (append_assoc before (c ∷ []) later)) b in
    absurd (leads_nowhere before s c e l (begins_before (before ++ (c ∷ [])) later moved))
goes_by (Some t) c later before s e l b rest =
    let moved = subst BeginsLayout (sym (append_assoc before (c ∷ []) later)) b in
    subst StateOf (append_assoc before (c ∷ []) later) (rest (before ++ (c ∷ [])) t (leads_on before s t c e l) moved)

goes_from : (later before : List Class) (s : State) → Leads before s → BeginsLayout (before ++ later)
    → StateOf (before ++ later)
goes_from [] before s l b = subst StateOf (sym (append-nil before)) (record { state = s; leads = l })
goes_from (c ∷ later) before s l b = goes_by (next_of s c) c later before s refl l b (goes_from later)

pub state_of : (cs : List Class) → BeginsLayout cs → StateOf cs
state_of cs b = goes_from cs [] at.Capabilities leads_first b

-- nothing goes on with an opcode outside the profile
outside : (s : State) → next_of s Outside ≡ None
outside at.Capabilities = refl
outside _ = refl

known_there : (b : Bool) (s t : State) (c : Class) → next_of s (if b then c else Outside) ≡ Some t → b ≡ true
known_there true s t c h = refl
known_there false s t c h = let z = outside s in cc

has_row : (p : Profile) (opcode : ℕ) (s t : State) → next_of s (class_under p opcode) ≡ Some t → HasRow p opcode
has_row p opcode s t h = known_there (profiles.has_row p (row_of opcode)) s t (seen p (class_of opcode)) h

follows_by : (p : Profile) (o : Option State) (before : List PlainInst) (s : State) (opcode : ℕ)
    → next_of s (class_under p opcode) ≡ o → Leads (seen_classes p before) s → IsTrue (is_some o)
    → MayFollow p before opcode
follows_by p None before s opcode e l h = absurd cc
follows_by p (Some t) before s opcode e l h = record {
  row = has_row p opcode s t e;
  begins = leads_begin (seen_classes p before ++ (class_under p opcode ∷ [])) t
      (leads_on (seen_classes p before) s t (class_under p opcode) e l);
}

there_by : (p : Profile) (o : Option State) (before : List PlainInst) (s : State) (opcode : ℕ)
    → next_of s (class_under p opcode) ≡ o → Leads (seen_classes p before) s → MayFollow p before opcode
    → IsTrue (is_some o)
there_by p None before s opcode e l m =
    absurd (leads_nowhere (seen_classes p before) s (class_under p opcode) e l m.begins)
there_by p (Some t) before s opcode e l m = refl

-- the state tells whether an opcode may follow, and whether a module may end
pub follows : (p : Profile) (before : List PlainInst) (s : State) (opcode : ℕ) → Leads (seen_classes p before) s
    → may_follow p s opcode ≡ true → MayFollow p before opcode
follows p before s opcode l h = follows_by p (next_of s (class_under p opcode)) before s opcode refl l h

pub followed : (p : Profile) (before : List PlainInst) (s : State) (opcode : ℕ) → Leads (seen_classes p before) s
    → MayFollow p before opcode → may_follow p s opcode ≡ true
followed p before s opcode l m = there_by p (next_of s (class_under p opcode)) before s opcode refl l m

whole_by : (b : Bool) (cs : List Class) (s : State) → may_stop s ≡ b → Leads cs s → IsTrue b ↔ IsLayout cs
whole_by true cs s e l = (λ h. leads_end cs s e l, λ m. refl)
whole_by false cs s e l = (λ h. absurd cc, λ m. absurd (leads_no_end cs s e l m))

pub ends_there : (cs : List Class) (s : State) → Leads cs s → IsTrue (may_stop s) ↔ IsLayout cs
ends_there cs s l = whole_by (may_stop s) cs s refl l

known_by : (p : Profile) (o : Option State) (cs : List Class) (s : State) (opcode : ℕ)
    → next_of s (class_under p opcode) ≡ o → Leads cs s
    → BeginsLayout (cs ++ (class_under p opcode ∷ [])) → HasRow p opcode
known_by p None cs s opcode e l b = absurd (leads_nowhere cs s (class_under p opcode) e l b)
known_by p (Some t) cs s opcode e l b = has_row p opcode s t e

-- the opcode of an instruction with which a module begins has a row
pub known_class : (p : Profile) (cs : List Class) (opcode : ℕ) → BeginsLayout (cs ++ (class_under p opcode ∷ []))
    → HasRow p opcode
known_class p cs opcode b =
    let s = state_of cs (begins_before cs (class_under p opcode ∷ []) b) in
    known_by p (next_of s.state (class_under p opcode)) cs s.state opcode refl s.leads b
