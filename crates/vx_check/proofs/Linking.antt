-- The checks of names.
use Rattle.std.proofs.Common.{◌≡◌, ◌≢◌, ℕ, zero, suc, ◌-◌, ◌^◌, ◌<◌, ◌≤◌, min, Bool, true, false, cond, List, length, get_or, map, refl, sym, ap, subst, ◌∙◌, inl, inr, arith, rules}
use Rattle.std.specs.Prelude.{Option, Some, None, IfSome, ◌==◌, ◌&&◌, ◌||◌, not, nat_le}
use Rattle.std.proofs.lemmas.Bool.{cases_eq, eqb-true, leb-true}
use Rattle.std.proofs.lemmas.Grind.{get_or_default_zero}
use Rattle.vx_base.specs.declared.kind.FileKind.{FileKind}
use Rattle.vx_base.specs.declared.kind.FileKind.TheVariants.{File, Directory}
use Rattle.vx_base.specs.declared.inode.InodeValue.{InodeValue}
use Rattle.vx_base.specs.declared.inode.DirEntry.{DirEntry}
use Rattle.vx_layout.specs.Places.{Volume, inode_sector}
use Rattle.vx_layout.specs.Inodes.{layout1, IsSlot}
use Rattle.vx_sound.specs.Said.{Image, inode_said, entries_of, names_of}
use Rattle.vx_sound.specs.Facts.{root, HasOneName, HasLinks, FitNames, IsRoot, AreLinksRight, IsReached as IsReachedFromRoot}
use Rattle.vx_sound.specs.Facts as facts
use Rattle.vx_sound.specs.Checks.{links, link_checks}
use Rattle.vx_check.specs.Parts.{NamesFirst}
use Rattle.vx_check.specs.Reaching.{Children, children_of, Names, ReachedIn, IsReached}
use Rattle.vx_check.specs.Links.{AreChildren, kind_fits, links_fit}

-- ---- reached by these numbers, and reached in the image

module _ (v : Volume) (image : Image) (g : Children) (are : AreChildren g v image) where
  named : (d n : ℕ) → Names (children_of g d) n → facts.IsNamedBy v image n d
  named d n h =
      let ts : List ℕ = map (λ (e : DirEntry). e.ino) (entries_of v image d) in
      let e : children_of g d ≡ ts = are d in
      let lt : h.at < length ts = subst (λ (l : List ℕ). h.at < length l) e h.inside in
      (h.at, lt, get_or_default_zero ts h.at n lt ∙ sym (ap (λ (l : List ℕ). get_or l h.at 0) e) ∙ h.is)

  back : (d n : ℕ) → facts.IsNamedBy v image n d → Names (children_of g d) n
  back d n h =
      let ts : List ℕ = map (λ (e : DirEntry). e.ino) (entries_of v image d) in
      let e : children_of g d ≡ ts = are d in
      record {
        at = h.0;
        inside = subst (λ (l : List ℕ). h.0 < length l) (sym e) h.1;
        is = ap (λ (l : List ℕ). get_or l h.0 0) e ∙ sym (get_or_default_zero ts h.0 n h.1) ∙ h.2;
      }

  way_on : (k n : ℕ) → ReachedIn g 2 k n → facts.ReachedIn v image k n
  way_on zero n h = h
  way_on (suc k) n h = (h.0, way_on k h.0 h.1, named h.0 n h.2)

  way_back : (k n : ℕ) → facts.ReachedIn v image k n → ReachedIn g 2 k n
  way_back zero n h = h
  way_back (suc k) n h = (h.0, way_back k h.0 h.1, back h.0 n h.2)

  pub reached_on : (n : ℕ) → IsReached g 2 n → IsReachedFromRoot v image n
  reached_on n r = record { names = r.names; way = way_on r.names n r.way }

  pub reached_back : (n : ℕ) → IsReachedFromRoot v image n → IsReached g 2 n
  reached_back n r = record { names = r.names; way = way_back r.names n r.way }

-- ---- the test

both : (a b : Bool) → (a && b) ≡ true → (a ≡ true) × (b ≡ true)
both true b h = (refl, h)
both false b h = absurd (cc)

and_true : (a b : Bool) → a ≡ true → b ≡ true → (a && b) ≡ true
and_true a b p q = ap (λ (x : Bool). x && b) p ∙ q

not_true : (b : Bool) → not b ≡ true → b ≡ false
not_true true h = absurd (cc)
not_true false h = refl

same_test : (c : ℕ) → (c == c) ≡ true
same_test c = search rules

other_test : (c b : ℕ) → c ≢ b → (c == b) ≡ false
other_test c b ne = search rules

test_of : (x y : ℕ) → x ≡ y → (x == y) ≡ true
test_of x y e = subst (λ (z : ℕ). (x == z) ≡ true) e (same_test x)

or_true : (s : Bool) (x : ℕ) → (not s || nat_le 1 x) ≡ true → s ≡ true → 1 ≤ x
or_true true x h e = leb-true 1 x h
or_true false x h e = absurd (cc)

le_test : (x : ℕ) → 1 ≤ x → nat_le 1 x ≡ true
le_test x h = search rules

true_or : (s : Bool) (x : ℕ) → (s ≡ true → 1 ≤ x) → (not s || nat_le 1 x) ≡ true
true_or true x h = le_test x (h refl)
true_or false x h = refl

uncapped : (total x : ℕ) → x < 65536 → min total (2 ^ 32 - 1) ≡ x → total ≡ x
uncapped total x small e = omega arith

recapped : (total x : ℕ) → x < 65536 → total ≡ x → min total (2 ^ 32 - 1) ≡ x
recapped total x small e = omega arith

module _ (strict : Bool) (v : Volume) (image : Image) (n names : ℕ) (reached : Bool) (count : names ≡ min (names_of v image n) (2 ^ 32 - 1))
    (on : reached ≡ true → IsReachedFromRoot v image n) (back : IsReachedFromRoot v image n → reached ≡ true) where
  total_is : (x : ℕ) → x < 65536 → names ≡ x → names_of v image n ≡ x
  total_is x small e = uncapped (names_of v image n) x small (sym count ∙ e)

  count_is : (x : ℕ) → x < 65536 → names_of v image n ≡ x → names ≡ x
  count_is x small e = count ∙ recapped (names_of v image n) x small e

  -- an inode in use, not the root
  fits_names : (i : InodeValue) (kind : FileKind) → n ≢ 2 → i.inode.nlink < 65536 → kind_fits strict n kind i.inode.nlink names reached ≡ true → FitNames strict v image n i kind
  fits_names i File ne small h =
      let one = both (not (n == 2)) _ h in
      let two = both (names == i.inode.nlink) _ one.1 in
      record { links = total_is i.inode.nlink small (eqb-true names i.inode.nlink two.0); some = or_true strict i.inode.nlink two.1 }
  fits_names i Directory ne small h =
      let h1 : ((names == 1) && reached) ≡ true = subst (λ (b : Bool). cond b (names == 0) ((names == 1) && reached) ≡ true) (other_test n 2 ne) h in
      let one = both (names == 1) reached h1 in
      record { one = total_is 1 (omega arith) (eqb-true names 1 one.0); reached = on one.1 }

  names_fit : (i : InodeValue) (kind : FileKind) → n ≢ 2 → i.inode.nlink < 65536 → FitNames strict v image n i kind → kind_fits strict n kind i.inode.nlink names reached ≡ true
  names_fit i File ne small h =
      and_true (not (n == 2)) _ (ap (λ (b : Bool). not b) (other_test n 2 ne))
      (and_true (names == i.inode.nlink) _ (test_of names i.inode.nlink (count_is i.inode.nlink small h.links)) (true_or strict i.inode.nlink h.some))
  names_fit i Directory ne small h =
      subst (λ (b : Bool). cond b (names == 0) ((names == 1) && reached) ≡ true) (sym (other_test n 2 ne))
      (and_true (names == 1) reached (test_of names 1 (count_is 1 (omega arith) h.one)) (back h.reached))

  -- the root
  kind_is : (n_is : n ≡ 2) (i : InodeValue) (kind : FileKind) → kind_fits strict n kind i.inode.nlink names reached ≡ true → (kind ≡ Directory) × (names ≡ 0)
  kind_is n_is i File h =
      let one = both (not (n == 2)) _ h in
      let bad : true ≡ false = sym (test_of n 2 n_is) ∙ not_true (n == 2) one.0 in absurd (cc)
  kind_is n_is i Directory h = (refl, eqb-true names 0 (subst (λ (b : Bool). cond b (names == 0) ((names == 1) && reached) ≡ true) (test_of n 2 n_is) h))

  root_of : (o : Option InodeValue) → n ≡ 2 → links_fit strict n o names reached ≡ true → IsRoot v image o
  root_of None e h = let bad : true ≡ false = sym (test_of n 2 e) ∙ not_true (n == 2) h in absurd (cc)
  root_of (Some i) e h =
      let k = kind_is e i i.inode.kind h in
      record { directory = ap Some k.0; no_name = subst (λ (m : ℕ). names_of v image m ≡ 0) e (total_is 0 (omega arith) k.1) }

  root_kind : (kind : FileKind) (x : ℕ) → n ≡ 2 → Some kind ≡ Some Directory → names ≡ 0 → kind_fits strict n kind x names reached ≡ true
  root_kind File x e d none = absurd (cc)
  root_kind Directory x e d none = subst (λ (b : Bool). cond b (names == 0) ((names == 1) && reached) ≡ true) (sym (test_of n 2 e)) (test_of names 0 none)

  root_fits : (o : Option InodeValue) → n ≡ 2 → IsRoot v image o → links_fit strict n o names reached ≡ true
  root_fits None e h = let bad = h.directory in absurd (cc)
  root_fits (Some i) e h = root_kind i.inode.kind i.inode.nlink e h.directory (count_is 0 (omega arith) (subst (λ (m : ℕ). names_of v image m ≡ 0) (sym e) h.no_name))

  small_link : (i : InodeValue) → IsSlot layout1 (Some i) → i.inode.nlink < 65536
  small_link i is = is.nlink

  other_of : (o : Option InodeValue) → IsSlot layout1 o → n ≢ 2 → links_fit strict n o names reached ≡ true → IfSome o (λ i. FitNames strict v image n i i.inode.kind)
  other_of None is ne h = tt
  other_of (Some i) is ne h = fits_names i i.inode.kind ne (small_link i is) h

  other_fits : (o : Option InodeValue) → IsSlot layout1 o → n ≢ 2 → IfSome o (λ i. FitNames strict v image n i i.inode.kind) → links_fit strict n o names reached ≡ true
  other_fits None is ne h = ap (λ (b : Bool). not b) (other_test n 2 ne)
  other_fits (Some i) is ne h = names_fit i i.inode.kind ne (small_link i is) h

  module _ (o : Option InodeValue) (said : inode_said v image n ≡ o) (is : IsSlot layout1 o) where
    pub links_right : links_fit strict n o names reached ≡ true → AreLinksRight strict v image n
    links_right h = record {
      root_is = λ e. subst (IsRoot v image) (sym said) (root_of o e h);
      other = λ ne. subst (λ (x : Option InodeValue). IfSome x (λ i. FitNames strict v image n i i.inode.kind)) (sym said) (other_of o is ne h);
    }

    pub right_links : AreLinksRight strict v image n → links_fit strict n o names reached ≡ true
    right_links h = elim (cases_eq n 2) [
      | inl e ↦ root_fits o e (subst (IsRoot v image) said (h.root_is e))
      | inr ne ↦ other_fits o is ne (subst (λ (x : Option InodeValue). IfSome x (λ i. FitNames strict v image n i i.inode.kind)) said (h.other ne))
    ]

    pub bad_links : (sector : ℕ) → sector ≡ inode_sector v n → links_fit strict n o names reached ≡ false → NamesFirst strict v image (link_checks n) sector
    bad_links sector place wrong = record {
      check = links n;
      first = inl (refl, λ (h : AreLinksRight strict v image n). let bad : true ≡ false = sym (right_links h) ∙ wrong in absurd (cc));
      sector_is = place;
    }
