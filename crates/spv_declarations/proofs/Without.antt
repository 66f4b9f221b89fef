-- What kinds of instructions there are, and what that tells of the rules.
use Rattle.std.proofs.Common.{◌≡◌, ◌∙◌, ◌⊎◌, ◌↔◌, ◌+◌, ◌<◌, ◌&&◌, ◌||◌, inl, inr, ℕ, Bool, true, false, refl, sym}
use Rattle.std.proofs.Common.{subst, arith, List, [], Option, Some, None, nat_eq, IsTrue}
use Rattle.std.specs.Prelude.{slice_get}
use Rattle.std.specs.BTreeSet.{BTreeSet}
use Rattle.std.proofs.lemmas.Bool.{cases_lt, eqb-true, eq-eqb}
use Rattle.spv_table.specs.Table.{Table}
use Rattle.spv_module.specs.declared.opcode.TheConstants as opcode
use Rattle.spv_module.specs.Operand.{PlainInst}
use Rattle.spv_declarations.specs.Given.{At, Gives, is_decorate, is_member_decorate, is_of_member, given_in, member_in}
use Rattle.spv_declarations.specs.Given.{member_given_in}
use Rattle.spv_declarations.specs.Declarations.{AnnouncesElsewhere, IsForwardElsewhere, IsIncapable, IsOfNoMember}
use Rattle.spv_declarations.specs.Declarations.{NamesNoMember, NeedsAnother}
use Rattle.spv_declarations.specs.Decorated.{HasBy, HasOnMember, IsBuiltIn, IsHalfBuiltIn, IsInitialized, IsLinkedEntry}
use Rattle.spv_declarations.specs.Decorated.{IsMisplaced, IsSecond}
use Rattle.spv_declarations.specs.Entry.{IsRepeated, SetsById, TakesId, name_in}
use Rattle.spv_declarations.specs.declared.said.Said.{Said}
use Rattle.spv_declarations.specs.declared.kinds.Kinds.{Kinds}
use Rattle.spv_declarations.specs.inner.Early.{AreEarly, is_grouping, is_saying}
use Rattle.spv_declarations.specs.inner.First.{IsFirstBelow}
use Rattle.spv_declarations.specs.inner.Kinds.{Enters, IsOfMembers, Groups, GivesAny, Initializes, Misses, Marks}
use Rattle.spv_declarations.specs.inner.Kinds.{EnterOnce, AreKinds, IsCapable, Notes}
use Rattle.spv_declarations.specs.inner.Said.{AreSaid, HasAt, HasMemberAt, ImportsBy, NamesGroup}
use Rattle.spv_declarations.specs.inner.Sets.{HasAll, IsSaid, IsSaidBefore}
use Rattle.spv_declarations.proofs.Gathered.{none_in, none_both, one_inst, said_none, said_cases, said_early}
use Rattle.spv_declarations.proofs.Saying.{gated, or_left, or_right, target_group, member_group, imports_give}
use Rattle.spv_declarations.proofs.Saying.{group_early}
use Rattle.spv_declarations.proofs.Stated.{has_at, has_place, has_import_early, has_member_early, member_has_at}
use Rattle.spv_declarations.proofs.Stated.{member_place}

-- Of no instructions there is none of any kind; and of one more.
misses_more : (is : List PlainInst) (P : PlainInst → Type 0) (n : ℕ) (i : PlainInst) (old new : Bool)
    → slice_get is n ≡ Some i → Marks old new P i → Misses old n is P → Misses new (n + 1) is P
misses_more is P n i old new at m h e s =
    let k = m e in elim (said_cases is P n i at s) [ inl o ↦ h k.0 o | inr p ↦ k.1 p ]

once_more : (is : List PlainInst) (n : ℕ) (i : PlainInst) → slice_get is n ≡ Some i → EnterOnce n is
    → (Enters i → ¬ (IsSaidBefore n is Enters)) → EnterOnce (n + 1) is
once_more is n i at once none j b l there e s = elim (cases_lt j n) [
  | inl k ↦ once j b k there e s
  | inr g ↦
      let q : j ≡ n = omega (arith, l, g) in
      let there' : slice_get is n ≡ Some b = subst (λ (k : ℕ). slice_get is k ≡ Some b) q there in
      let p : Some b ≡ Some i = sym there' ∙ at in
      let o : b ≡ i = cc in
      none (subst Enters o e) (subst (λ (k : ℕ). IsSaidBefore k is Enters) q s)
]

pub kinds_none : (is : List PlainInst) (k : Kinds) → AreKinds is 0 k
kinds_none is k = record {
  entry = λ e. said_none is _;
  entries = λ e j b l there h. absurd (omega (arith, l));
  by_id = λ e. said_none is _;
  members = λ e. said_none is _;
  groups = λ e. said_none is _;
  restricted = λ e. said_none is _;
  aliased = λ e. said_none is _;
  linked = λ e. said_none is _;
  initialized = λ e. said_none is _;
  forward = λ e. said_none is _;
  bytes = λ e. said_none is _;
}

pub kinds_more : (is : List PlainInst) (n : ℕ) (i : PlainInst) (old new : Kinds) → slice_get is n ≡ Some i
    → Notes old new i → AreKinds is n old → AreKinds is (n + 1) new
kinds_more is n i old new at m h = record {
  entry = misses_more is _ n i old.entry new.entry at m.entry h.entry;
  entries = λ e. let k = m.entries e in once_more is n i at (h.entries k.0) (λ o. h.entry (k.1 o));
  by_id = misses_more is _ n i old.by_id new.by_id at m.by_id h.by_id;
  members = misses_more is _ n i old.members new.members at m.members h.members;
  groups = misses_more is _ n i old.groups new.groups at m.groups h.groups;
  restricted = misses_more is _ n i old.restricted new.restricted at m.restricted h.restricted;
  aliased = misses_more is _ n i old.aliased new.aliased at m.aliased h.aliased;
  linked = misses_more is _ n i old.linked new.linked at m.linked h.linked;
  initialized = misses_more is _ n i old.initialized new.initialized at m.initialized h.initialized;
  forward = misses_more is _ n i old.forward new.forward at m.forward h.forward;
  bytes = misses_more is _ n i old.bytes new.bytes at m.bytes h.bytes;
}

-- Where there is none of its kind, no instruction breaks a rule.
pub none_at : (is : List PlainInst) (P Q : PlainInst → Type 0) (count : ℕ) (b : Bool) → ((i : PlainInst) → Q i → P i)
    → Misses b count is P → b ≡ false → IsFirstBelow count (At is Q) None
none_at is P Q count b f m e n l h = m e (n, h.0, l, h.1, f h.0 h.2)

pub no_repeated : (is : List PlainInst) (count : ℕ) (k : Kinds) → AreKinds is count k → k.entries ≡ false
    → IsFirstBelow count (IsRepeated is) None
no_repeated is count k a e n l r =
    a.entries e n r.inst l r.there
    (eqb-true r.inst.opcode opcode.ENTRY_POINT
    (gated (nat_eq r.inst.opcode opcode.ENTRY_POINT) (name_in r.inst.operands) (r.model, r.name) r.named)) (
      r.before,
      r.other,
      r.lower,
      r.other_there,
      eqb-true r.other.opcode opcode.ENTRY_POINT
          (gated (nat_eq r.other.opcode opcode.ENTRY_POINT) (name_in r.other.operands) (r.model, r.name) r.same),
    )

pub no_by_id : (is : List PlainInst) (count : ℕ) (k : Kinds) → AreKinds is count k → k.by_id ≡ false
    → IsFirstBelow count (TakesId is) None
no_by_id is count k a e = none_at is SetsById SetsById count k.by_id (λ i s. s) a.by_id e

named_member : (is : List PlainInst) (i : PlainInst) → NamesNoMember is i → IsOfMembers i
named_member is i h = gated _ (member_in i.operands) (h.0, h.1) h.2

pub no_members : (is : List PlainInst) (count : ℕ) (k : Kinds) → AreKinds is count k → k.members ≡ false
    → IsFirstBelow count (IsOfNoMember is) None
no_members is count k a e =
    none_at is IsOfMembers (NamesNoMember is) count k.members (λ i h. named_member is i h) a.members e

announced : (is : List PlainInst) (i : PlainInst) → AnnouncesElsewhere is i → i.opcode ≡ opcode.TYPE_FORWARD_POINTER
announced is i h = eqb-true i.opcode opcode.TYPE_FORWARD_POINTER (gated _ _ h.0 h.2)

pub no_forward : (is : List PlainInst) (count : ℕ) (k : Kinds) → AreKinds is count k → k.forward ≡ false
    → IsFirstBelow count (IsForwardElsewhere is) None
no_forward is count k a e = none_at is (λ i. i.opcode ≡ opcode.TYPE_FORWARD_POINTER) (AnnouncesElsewhere is) count
    k.forward (λ i h. announced is i h) a.forward e

-- by what groups say
grouping : (i : PlainInst) (n : ℕ) → i.opcode ≡ n → is_grouping n ≡ true → Groups i
grouping i n q h = subst (λ (m : ℕ). is_grouping m ≡ true) (sym q) h

no_has_at : (is : List PlainInst) (count d x m : ℕ) (b g : Bool) (i : PlainInst) → Misses b count is (GivesAny d)
    → b ≡ false → Misses g count is Groups → g ≡ false → m < count → slice_get is m ≡ Some i
    → HasAt is (Gives d) x i → ⊥
no_has_at is count d x m b g i p e q f l at (HasAt.own s n) = p e (m, i, l, at, (x, s))
no_has_at is count d x m b g i p e q f l at (HasAt.by_group h t s) =
    q f (m, i, l, at, grouping i opcode.GROUP_DECORATE (target_group i h t.0) refl)

no_has : (is : List PlainInst) (count d x m : ℕ) (b g : Bool) → Misses b count is (GivesAny d) → b ≡ false
    → Misses g count is Groups → g ≡ false → m < count → HasBy is x d m → ⊥
no_has is count d x m b g p e q f l h =
    let t = has_place is d x m h in no_has_at is count d x m b g t.0 p e q f l t.1 t.2

pub no_restricted : (is : List PlainInst) (count : ℕ) (k : Kinds) → AreKinds is count k → k.groups ≡ false
    → k.restricted ≡ false → IsFirstBelow count (IsSecond is) None
no_restricted is count k a g e n l s =
    let u = s.greater.0 in
    no_has is count 19 s.id s.restricted k.restricted k.groups a.restricted e a.groups g (omega (arith, u, l)) s.one.has

pub no_aliased : (is : List PlainInst) (count : ℕ) (k : Kinds) → AreKinds is count k → k.groups ≡ false
    → k.aliased ≡ false → IsFirstBelow count (IsSecond is) None
no_aliased is count k a g e n l s =
    let u = s.greater.1 in
    no_has is count 20 s.id s.aliased k.aliased k.groups a.aliased e a.groups g (omega (arith, u, l)) s.other.has

pub no_linked : (is : List PlainInst) (count : ℕ) (k : Kinds) → AreKinds is count k → k.groups ≡ false
    → k.linked ≡ false → IsFirstBelow count (IsLinkedEntry is) None
no_linked is count k a g e n l r = no_has is count 41 r.0 n k.linked k.groups a.linked e a.groups g l r.2

-- variables with initializers
initializes : (G : Table) (is : List PlainInst) (n : ℕ) (r : IsInitialized G is n) → Initializes r.inst
initializes G is n r =
    let o = eq-eqb r.inst.opcode opcode.VARIABLE r.opcode in
    (r.id, r.class, rw (o, r.operands) refl)

pub no_initialized : (G : Table) (is : List PlainInst) (count : ℕ) (k : Kinds) → AreKinds is count k
    → k.initialized ≡ false → IsFirstBelow count (IsInitialized G is) None
no_initialized G is count k a e n l r = a.initialized e (n, r.inst, l, r.there, initializes G is n r)

-- what is imported
no_import_at : (is : List PlainInst) (l : Option ℕ) (count x : ℕ) (k : Kinds) → AreKinds is count k
    → k.groups ≡ false → k.linked ≡ false → IsSaidBefore count is (λ i. HasAt is (ImportsBy l) x i) → ⊥
no_import_at is l count x k a g e (m, i, lt, at, HasAt.own s n) =
    a.linked e (m, i, lt, at, (x, imports_give l i x s))
no_import_at is l count x k a g e (m, i, lt, at, HasAt.by_group h t s) =
    a.groups g (m, i, lt, at, grouping i opcode.GROUP_DECORATE (target_group i h t.0) refl)

pub no_imports : (is : List PlainInst) (l : Option ℕ) (count : ℕ) (k : Kinds) (s : BTreeSet ℕ) → AreEarly is count
    → AreKinds is count k → k.groups ≡ false → k.linked ≡ false → s.keys ≡ []
    → HasAll is (λ i x. HasAt is (ImportsBy l) x i) s
no_imports is l count k s early a g e n x = (
  λ t. absurd (none_in s x n t),
  λ h. absurd (no_import_at is l count x k a g e (said_early is (λ i. HasAt is (ImportsBy l) x i) count count early
      (λ i. has_import_early is l x i) (omega arith) h)),
)

-- what is said of groups
names_group : (i : PlainInst) (g : ℕ) → NamesGroup i g → Groups i
names_group i g (inl e) = grouping i opcode.GROUP_DECORATE (target_group i g e) refl
names_group i g (inr e) = grouping i opcode.GROUP_MEMBER_DECORATE (member_group i g e) refl

no_group_named : (is : List PlainInst) (count g : ℕ) (k : Kinds) → AreEarly is count → AreKinds is count k
    → k.groups ≡ false → IsSaid is (λ i. NamesGroup i g) → ⊥
no_group_named is count g k early a f s =
    let b = said_early is (λ i. NamesGroup i g) count count early (λ i. group_early i g) (omega arith) s in
    a.groups f (b.0, b.1, b.2, b.3, names_group b.1 g b.4)

pub said_without : (l : Option ℕ) (is : List PlainInst) (count : ℕ) (k : Kinds) (s : Said) → AreEarly is count
    → AreKinds is count k → k.groups ≡ false → s.pairs.keys ≡ [] → s.importing.keys ≡ [] → AreSaid l is s
said_without l is count k s early a f p q = record {
  kept = λ g d t. absurd (none_both s.pairs g d p t);
  keeps = λ g d n o t. absurd (no_group_named is count g k early a f n);
  imported = λ g t. absurd (none_in s.importing g q t);
  imports = λ g n t. absurd (no_group_named is count g k early a f n);
}

-- what members have
no_member_by : (is : List PlainInst) (count t j d m : ℕ) (k : Kinds) (i : PlainInst) → AreKinds is count k
    → k.groups ≡ false → k.members ≡ false → m < count → slice_get is m ≡ Some i → HasMemberAt is t j d i → ⊥
no_member_by is count t j d m k i a g e l at (HasMemberAt.own s) = a.members e (
  m,
  i,
  l,
  at,
  or_right
      (nat_eq i.opcode opcode.MEMBER_NAME) _
      (gated (is_member_decorate i.opcode) (member_given_in i.operands) (t, j, d) s),
)
no_member_by is count t j d m k i a g e l at (HasMemberAt.by_group h p s) =
    a.groups g (m, i, l, at, grouping i opcode.GROUP_MEMBER_DECORATE (member_group i h p.0) refl)

no_member : (is : List PlainInst) (count t j d m : ℕ) (k : Kinds) → AreEarly is count → AreKinds is count k
    → k.groups ≡ false → k.members ≡ false → HasOnMember is t j d m → ⊥
no_member is count t j d m k early a g e h =
    let s = member_place is t j d m h in
    no_member_by is count t j d m k s.0 a g e (early.each m s.0 s.1 (has_member_early is t j d s.0 s.2)) s.1 s.2

built_nowhere : (is : List PlainInst) (count t : ℕ) (k : Kinds) → AreEarly is count → AreKinds is count k
    → k.groups ≡ false → k.members ≡ false → (j : ℕ) → IsBuiltIn is t j → ⊥
built_nowhere is count t k early a g e j b = no_member is count t j 11 b.1.0 k early a g e b.1.1

pub no_built_in : (is : List PlainInst) (count : ℕ) (k : Kinds) → AreEarly is count → AreKinds is count k
    → k.groups ≡ false → k.members ≡ false → IsFirstBelow count (IsHalfBuiltIn is) None
no_built_in is count k early a g e n l (IsHalfBuiltIn.in_part i t m j ms at o p b q c) =
    built_nowhere is count t k early a g e m b
no_built_in is count k early a g e n l (IsHalfBuiltIn.within i t u ms at o p h (m, b)) =
    built_nowhere is count u k early a g e m b

-- what the capabilities allow
incapable_nowhere : (G : Table) (is : List PlainInst) (count : ℕ) (k : Kinds) (n : ℕ) (i : PlainInst)
    → AreKinds is count k → IsCapable G is k.bytes → n < count → slice_get is n ≡ Some i → NeedsAnother G is i → ⊥
incapable_nowhere G is count k n i a c l at (inl h) =
    elim c.1 [ inl e ↦ a.bytes e (n, i, l, at, h.0) | inr b ↦ h.1 b ]
incapable_nowhere G is count k n i a c l at (inr h) = c.0 h.1

pub no_incapable : (G : Table) (is : List PlainInst) (count : ℕ) (k : Kinds) → AreKinds is count k
    → IsCapable G is k.bytes → IsFirstBelow count (IsIncapable G is) None
no_incapable G is count k a c n l h = incapable_nowhere G is count k n h.0 a c l h.1 h.2

-- What is misplaced, an instruction says that says something of ids or members.
pub says : (i : PlainInst) (n : ℕ) → i.opcode ≡ n → is_saying n ≡ true → is_saying i.opcode ≡ true
says i n q h = subst (λ (m : ℕ). is_saying m ≡ true) (sym q) h

pub has_says : (is : List PlainInst) (d x : ℕ) (i : PlainInst) → HasAt is (Gives d) x i → is_saying i.opcode ≡ true
has_says is d x i (HasAt.own s g) =
    or_left (is_decorate i.opcode) _ (gated (is_decorate i.opcode) (given_in i.operands) (x, d) s)
has_says is d x i (HasAt.by_group g t s) = says i opcode.GROUP_DECORATE (target_group i g t.0) refl

pub member_says : (is : List PlainInst) (t k d : ℕ) (i : PlainInst) → HasMemberAt is t k d i → is_saying i.opcode ≡ true
member_says is t k d i (HasMemberAt.own e) =
    or_right (is_decorate i.opcode) _
    (or_left (is_of_member i.opcode) _ (or_right (nat_eq i.opcode opcode.MEMBER_NAME) _
    (gated (is_member_decorate i.opcode) (member_given_in i.operands) (t, k, d) e)))
member_says is t k d i (HasMemberAt.by_group g p s) =
    says i opcode.GROUP_MEMBER_DECORATE (member_group i g p.0) refl

pub misplaced_says : (is : List PlainInst) (n : ℕ) (i : PlainInst) → slice_get is n ≡ Some i → IsMisplaced is n
    → is_saying i.opcode ≡ true
misplaced_says is n i at (IsMisplaced.with_id j there o h) =
    subst (λ (k : PlainInst). is_saying k.opcode ≡ true) (one_inst is n j i there at) (says j opcode.DECORATE o refl)
misplaced_says is n i at (IsMisplaced.on_id x d h m) = has_says is d x i (has_at is (Gives d) x n i at h)
misplaced_says is n i at (IsMisplaced.on_member t k d h m) = member_says is t k d i (member_has_at is t k d n i at h)

pub says_nothing : (is : List PlainInst) (n : ℕ) (i : PlainInst) (b : Bool) → slice_get is n ≡ Some i
    → b ≡ is_saying i.opcode → b ≡ false → IsTrue false ↔ IsMisplaced is n
says_nothing is n i b at t f = (
  λ y. let no : false ≡ true = y in absurd (cc),
  λ m. let no : false ≡ true = sym f ∙ (t ∙ misplaced_says is n i at m) in absurd (cc),
)

-- by a test of two kinds, and of three
neither : (a b : Bool) → (a || b) ≡ false → (a ≡ false) × (b ≡ false)
neither true b e = absurd (cc)
neither false b e = (refl, e)

either_not : (a b : Bool) → (a && b) ≡ false → (a ≡ false) ⊎ (b ≡ false)
either_not true b e = inr e
either_not false b e = inl refl

pub not_linked : (is : List PlainInst) (count : ℕ) (k : Kinds) → AreKinds is count k → (k.groups || k.linked) ≡ false
    → IsFirstBelow count (IsLinkedEntry is) None
not_linked is count k a f = let n = neither k.groups k.linked f in no_linked is count k a n.0 n.1

pub not_imported : (is : List PlainInst) (l : Option ℕ) (count : ℕ) (k : Kinds) (s : BTreeSet ℕ) → AreEarly is count
    → AreKinds is count k → (k.groups || k.linked) ≡ false → s.keys ≡ []
    → HasAll is (λ i x. HasAt is (ImportsBy l) x i) s
not_imported is l count k s early a f e =
    let n = neither k.groups k.linked f in no_imports is l count k s early a n.0 n.1 e

pub not_built_in : (is : List PlainInst) (count : ℕ) (k : Kinds) → AreEarly is count → AreKinds is count k
    → (k.groups || k.members) ≡ false → IsFirstBelow count (IsHalfBuiltIn is) None
not_built_in is count k early a f = let n = neither k.groups k.members f in no_built_in is count k early a n.0 n.1

pub not_second : (is : List PlainInst) (count : ℕ) (k : Kinds) → AreKinds is count k
    → (k.groups || (k.restricted && k.aliased)) ≡ false → IsFirstBelow count (IsSecond is) None
not_second is count k a f =
    let n = neither k.groups (k.restricted && k.aliased) f in
    elim (either_not k.restricted k.aliased n.1) [
      | inl e ↦ no_restricted is count k a n.0 e
      | inr e ↦ no_aliased is count k a n.0 e
    ]
