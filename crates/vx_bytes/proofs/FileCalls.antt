-- A smaller truncate, a settle and the end of a file, by what they leave of each file.
use Rattle.std.proofs.Common.{◌≡◌, ◌≢◌, ◌⊎◌, ◌<◌, ℕ, Bool, true, false, cond, ◌||◌, List, [], ◌∷◌, ◌++◌, length, Ok, Err, refl, sym, ◌∙◌, ap, subst, inl, inr}
use Rattle.std.specs.Prelude.{Option, Some, None, ◌==◌, nat_le}
use Rattle.std.specs.FinMap as map
use Rattle.std.proofs.lemmas.Bool.{cases_Bool, eq-eqb, ne_eqb}
use Rattle.std.proofs.lemmas.List.Folds.{list_any-append}
use Rattle.std.specs.Ordering.{nat_cmp, eq_by_cmp, is_eq}
use Rattle.std.specs.Cmp.{tied_itself, nat_cmp_total}
use Rattle.vx_base.proofs.Maps.{apart, at_key, at_other}
use Rattle.vx_base.specs.declared.refusal.Refusal.TheVariants as why
use Rattle.vx_extents.specs.Extents.{Mapped}
use Rattle.vx_space.specs.Space.{Space, no_space, page_blocks}
use Rattle.vx_space.specs.Laws.{IsPart, AreRising}
use Rattle.vx_space.specs.Leaving.{cut_space, surplus_maps}
use Rattle.vx_model.specs.Edits.{drop_node}
use Rattle.vx_model.specs.Images.{among}
use Rattle.vx_model.specs.LaidOut.{IsHeld, IsLaidOut, is_unreserved}
use Rattle.vx_model.specs.Layout.{blocks_at, space_at, maps_at, settled_at, pages_from, given_up, pended}
use Rattle.vx_model.specs.Outcome.{Maybe, need, ◌>>=◌}
use Rattle.vx_model.specs.State.{State}
use Rattle.vx_model.specs.Tree.{File, Node, Nodes, IsFile, IsDirectory}
use Rattle.vx_model.specs.Walks.{as_file, file_at}
use Rattle.vx_model.specs.Bytes.{cut, cut_file}
use Rattle.vx_model.specs.Opened.{pages_of}
use Rattle.vx_model.specs.Settling.{settle, settle_file, settled_layout, space_settled}
use Rattle.vx_bytes.specs.BlockUse.{AreSpaces, GivesUp}
use Rattle.vx_bytes.specs.Events.{IsSameFile, IsUntouched, LeavesOthers, IsShorter, ComesOrGoes, IsEmptied, IsSettledNow}
use Rattle.vx_bytes.specs.Places.{sectors_of}
use Rattle.vx_bytes.specs.Promises.{file_in}
use Rattle.vx_bytes.proofs.GivingUp.{gives_gone, gives_all, gives_settle}

-- ---- files by the nodes and the spaces

pub same_file : (f : Maybe File) → IsSameFile f f
same_file (Ok f) = refl
same_file (Err why) = tt

-- the node and the space are what they were
pub untouched_by : (s new : State) (n : ℕ) → map.get new.tree.nodes n ≡ map.get s.tree.nodes n → space_at new.layout n ≡ space_at s.layout n → IsUntouched s new n
untouched_by s new n node space = record {
  file = subst (λ (f : Maybe File). IsSameFile (file_in s n) f) (sym (ap (λ (x : Option Node). need x why.NoEnt >>= as_file) node)) (same_file (file_in s n));
  placed = λ p. ap (λ (x : Space). sectors_of x.present p) space;
  sectors = λ p. ap (λ (x : Space). sectors_of x.settled p) space;
  size = ap (λ (x : Space). x.size) space;
}

pub file_of : (nodes : Nodes) (n : ℕ) (x : Option Node) → map.get nodes n ≡ x → file_at nodes n ≡ (need x why.NoEnt >>= as_file)
file_of nodes n x is = ap (λ (y : Option Node). need y why.NoEnt >>= as_file) is

pub pick : {A : Type 0} (t : Bool) (a b : A) → t ≡ true → cond t a b ≡ a
pick t a b on = rw on refl

pub pass : {A : Type 0} (t : Bool) (a b : A) → t ≡ false → cond t a b ≡ b
pass t a b off = rw off refl

-- ---- a smaller truncate

module _ (s : State) (place ino size : ℕ) (f : File) where
  abbrev shortened : State
  shortened = cut s place ino size f

  pub cut_is : file_in s ino ≡ Ok f → size < length f.bytes → IsShorter s shortened ino size
  cut_is found less = record {
    was = f;
    is = cut_file size f;
    was_file = found;
    is_file = file_of shortened.tree.nodes ino (Some (IsFile (cut_file size f))) (at_key s.tree.nodes ino (IsFile (cut_file size f)));
    less = less;
    bytes = refl;
    space = pick (ino == ino) (cut_space (pages_of size) size (space_at s.layout ino)) (space_at s.layout ino) (eq-eqb ino ino refl);
  }

  pub cut_others : LeavesOthers s shortened ino
  cut_others n other = untouched_by s shortened n (at_other s.tree.nodes ino (IsFile (cut_file size f)) n other) (pass (n == ino) (cut_space (pages_of size) size (space_at s.layout ino)) (space_at s.layout n) (ne_eqb n ino other))

  pub cut_gives : GivesUp s shortened place
  cut_gives = gives_gone s shortened place ino (nat_le (pages_of size)) (λ n. elim (cases_Bool (n == ino)) [ inl on ↦ rw on refl | inr off ↦ rw off refl ]) (λ b. refl)

-- ---- what is laid out

spaces_by : (s : State) (n : ℕ) (o : Option Node) → IsHeld s.layout n o → IsPart (space_at s.layout n).settled (space_at s.layout n).present × AreRising 0 (space_at s.layout n).present
spaces_by s n None held = subst (λ (x : Space). IsPart x.settled x.present × AreRising 0 x.present) (sym held.space) (tt, tt)
spaces_by s n (Some (IsFile f)) held = (held.0.space.part, held.0.space.present_rises)
spaces_by s n (Some (IsDirectory d)) held = subst (λ (x : Space). IsPart x.settled x.present × AreRising 0 x.present) (sym held.0.space) (tt, tt)

pub laid_spaces : (s : State) → IsLaidOut s → AreSpaces s
laid_spaces s laid n = spaces_by s n (map.get s.tree.nodes n) (laid.nodes n)

-- ---- a settle

module _ (s : State) (place ino : ℕ) (f : File) (found : file_in s ino ≡ Ok f) where
  abbrev settled : State
  settled = record s { layout = settled_layout s.layout place ino f }

  settle_is : settle s place ino ≡ settled
  settle_is = ap (λ (x : Maybe File). settle_file s place ino x) found

  pub settle_others : LeavesOthers s (settle s place ino) ino
  settle_others n other = subst (λ (x : State). IsUntouched s x n) (sym settle_is) (untouched_by s settled n refl (pass (n == ino) (space_settled s.layout ino f) (space_at s.layout n) (ne_eqb n ino other)))

  here : space_at settled.layout ino ≡ space_settled s.layout ino f
  here = pick (ino == ino) (space_settled s.layout ino f) (space_at s.layout ino) (eq-eqb ino ino refl)

  pub settles : IsLaidOut s → (c : IsSettledNow s (settle s place ino) ino) × (c.was ≡ f)
  settles laid = subst (λ (x : State). (c : IsSettledNow s x ino) × (c.was ≡ f)) (sym settle_is) (
    record {
      was = f;
      is = f;
      was_file = found;
      is_file = found;
      bytes = refl;
      rising = (laid_spaces s laid ino).1;
      space = here;
    },
    refl,
  )

  waiting : (blocks : List ℕ) (b : ℕ) → (pended place blocks s.layout.pending b ≡ s.layout.pending b) ⊎ (pended place blocks s.layout.pending b ≡ Some place)
  waiting blocks b = elim (cases_Bool (among blocks b)) [ inl on ↦ inr (rw on refl) | inr off ↦ inl (rw off refl) ]

  pub settle_gives : IsLaidOut s → GivesUp s (settle s place ino) place
  settle_gives laid = subst (λ (x : State). GivesUp s x place) (sym settle_is)
      (gives_settle s settled place ino (is_unreserved f) (laid_spaces s laid ino).0 (laid_spaces s laid ino).1 (ap (λ (x : Space). x.settled) here)
      (λ n other. ap (λ (x : Space). x.settled) (pass (n == ino) (space_settled s.layout ino f) (space_at s.layout n) (ne_eqb n ino other))) (λ b. waiting (surplus_maps (space_settled s.layout ino f) (maps_at s.layout ino)) b))

-- ---- a file comes

nothing_by : (s : State) (ino : ℕ) (o : Option Node) → o ≡ None → IsHeld s.layout ino o → space_at s.layout ino ≡ no_space
nothing_by s ino o is held = (let none : IsHeld s.layout ino None = subst (IsHeld s.layout ino) is held in none.space)

pub comes_is : (s new : State) (ino : ℕ) (f : File) → IsLaidOut s → map.get s.tree.nodes ino ≡ None → map.get new.tree.nodes ino ≡ Some (IsFile f) → f.bytes ≡ [] → space_at new.layout ino ≡ space_at s.layout ino → IsEmptied s new ino
comes_is s new ino f laid unused made bytes space = record {
  file = subst (λ (x : Maybe File). ComesOrGoes x (file_in new ino)) (sym (file_of s.tree.nodes ino None unused)) (subst (λ (x : Maybe File). ComesOrGoes (Err why.NoEnt) x) (sym (file_of new.tree.nodes ino (Some (IsFile f)) made)) bytes);
  space = space ∙ nothing_by s ino (map.get s.tree.nodes ino) unused (laid.nodes ino);
}

-- ---- the file goes

at_removed : (nodes : Nodes) (k : ℕ) → map.get (map.remove nodes k) k ≡ None
at_removed nodes k = map.get-remove nat_cmp_total nodes k k ∙ pick (eq_by_cmp nat_cmp k k) None (map.get nodes k) (ap is_eq (tied_itself nat_cmp_total k))

at_kept : (nodes : Nodes) (k n : ℕ) → n ≢ k → map.get (map.remove nodes k) n ≡ map.get nodes n
at_kept nodes k n other = map.get-remove nat_cmp_total nodes k n ∙ pass (eq_by_cmp nat_cmp n k) None (map.get nodes n) (apart nat_cmp map.nat_cmp-IsAntisymmetric n k other)

or_right : (a b : Bool) → b ≡ true → (a || b) ≡ true
or_right a b on = elim (cases_Bool a) [ inl x ↦ rw x refl | inr x ↦ rw (x, on) refl ]

behind_pages : (xs ys : List Mapped) (b : ℕ) → among (page_blocks ys) b ≡ true → among (page_blocks (xs ++ ys)) b ≡ true
behind_pages [] ys b on = on
behind_pages (m ∷ xs) ys b on = or_right (b == m.block) (among (page_blocks (xs ++ ys)) b) (behind_pages xs ys b on)

module _ (s : State) (place ino : ℕ) where
  abbrev dropped : State
  dropped = drop_node s place ino

  pub drop_is : (f : File) → file_in s ino ≡ Ok f → IsEmptied s dropped ino
  drop_is f found = record {
    file = subst (λ (x : Maybe File). ComesOrGoes x (file_in dropped ino)) (sym found) (subst (λ (x : Maybe File). ComesOrGoes (Ok f) x) (sym (file_of dropped.tree.nodes ino None (at_removed s.tree.nodes ino))) tt);
    space = pick (ino == ino) no_space (space_at s.layout ino) (eq-eqb ino ino refl);
  }

  pub drop_others : LeavesOthers s dropped ino
  drop_others n other = untouched_by s dropped n (at_kept s.tree.nodes ino n other) (pass (n == ino) no_space (space_at s.layout n) (ne_eqb n ino other))

  given : (b : ℕ) → among (page_blocks (space_at s.layout ino).settled) b ≡ true → among (given_up s.layout ino) b ≡ true
  given b on =
      let first : among (page_blocks (settled_at s.layout ino)) b ≡ true = behind_pages (pages_from 0 (blocks_at s.layout ino)) (space_at s.layout ino).settled b on in
      list_any-append (λ x. b == x) (page_blocks (settled_at s.layout ino)) (maps_at s.layout ino) ∙ rw first refl

  pub drop_gives : GivesUp s dropped place
  drop_gives = gives_all s dropped place ino
      (λ n other. ap (λ (x : Space). x.settled) (pass (n == ino) no_space (space_at s.layout n) (ne_eqb n ino other)))
      (λ b on. (let all : among (given_up s.layout ino) b ≡ true = given b on in rw all refl))
      (λ b. elim (cases_Bool (among (given_up s.layout ino) b)) [ inl on ↦ inr (rw on refl) | inr off ↦ inl (rw off refl) ])
