-- What names mean after an edit of the nodes, and where walks lead then.
use Rattle.std.proofs.Common.{◌≡◌, ◌≢◌, ℕ, cond, List, [], ◌∷◌, ◌++◌, Option, Some, None, Ok, refl, sym, ap, subst, ◌∙◌, inl, inr}
use Rattle.std.specs.Prelude.{◌⊎◌}
use Rattle.std.specs.declared.cmp.Ordering.{Ordering}
use Rattle.std.specs.declared.cmp.Ordering.TheVariants.{Less, Equal, Greater}
use Rattle.std.specs.Ordering.{nat_cmp, is_eq}
use Rattle.std.specs.Cmp.{IsTotalOrder, tied_itself, nat_cmp_total}
use Rattle.std.specs.Cmp.Lexicographic.{slice_cmp, nat_list_cmp_total}
use Rattle.std.specs.FinMap as map
use Rattle.std.proofs.lemmas.Bool.{cases_eq}
use Rattle.vx_base.proofs.Maps.{apart, get_same, get_other, at_key, at_other}
use Rattle.vx_base.specs.Paths.{FileName, split}
use Rattle.vx_base.specs.declared.refusal.Refusal.TheVariants as no
use Rattle.vx_model.specs.Outcome.{Maybe, ◌>>=◌, need}
use Rattle.vx_model.specs.Tree.{Nodes, Node, File, Directory, Entries, IsFile, IsDirectory}
use Rattle.vx_model.specs.Paths.{PathEnd, path_end_from, path_end}
use Rattle.vx_model.specs.Walks.{root, as_directory, as_file, node_at, directory_at, file_at, step_to, walk, inode_of}
use Rattle.vx_model.specs.Edits.{with_name, without_name}
use Rattle.vx_model.specs.NameLaws.{meaning_in, lookup, IsOther, LeadsTo}
use Rattle.vx_model.proofs.Chains.{bind_ok, need_ok}

-- ---- a key less

module _ {K X : Type 0} {R : K → K → Ordering} (o : IsTotalOrder R) (same : map.IsAntisymmetric R) where
  pub gone_same : (m : map.FinMap R X) (k : K) → map.get (map.remove m k) k ≡ None
  gone_same m k = map.get-remove o m k k ∙ ap (λ b. cond b None (map.get m k)) (ap is_eq (tied_itself o k))

  pub gone_other : (m : map.FinMap R X) (k q : K) → q ≢ k → map.get (map.remove m k) q ≡ map.get m q
  gone_other m k q ne = map.get-remove o m k q ∙ ap (λ b. cond b None (map.get m q)) (apart R same q k ne)

pub node_gone : (nodes : Nodes) (k : ℕ) → map.get (map.remove nodes k) k ≡ None
node_gone = gone_same nat_cmp_total map.nat_cmp-IsAntisymmetric

pub node_stays : (nodes : Nodes) (k q : ℕ) → q ≢ k → map.get (map.remove nodes k) q ≡ map.get nodes q
node_stays = gone_other nat_cmp_total map.nat_cmp-IsAntisymmetric

-- ---- names as keys

pub names_same : map.IsAntisymmetric (slice_cmp nat_cmp)
names_same = map.slice_cmp-IsAntisymmetric map.nat_cmp-IsAntisymmetric

tied_not : (x y : FileName) (r : Ordering) → slice_cmp nat_cmp x y ≡ r → r ≢ Equal → x ≢ y
tied_not x y r is ne e = ne (sym is ∙ ap (slice_cmp nat_cmp x) (sym e) ∙ tied_itself nat_list_cmp_total x)

pub cases_name : (x y : FileName) → (x ≡ y) ⊎ (x ≢ y)
cases_name x y =
    elim (slice_cmp nat_cmp x y) as (λ r. slice_cmp nat_cmp x y ≡ r → (x ≡ y) ⊎ (x ≢ y)) [
      | Less ↦ λ e. inr (tied_not x y Less e (λ c. absurd cc))
      | Equal ↦ λ e. inl (names_same x y e)
      | Greater ↦ λ e. inr (tied_not x y Greater e (λ c. absurd cc))
    ] refl

-- a name of a directory is this one, or another
pub cases_entry : (at : ℕ) (name : FileName) (q : ℕ) (x : FileName) → ((q ≡ at) × (x ≡ name)) ⊎ IsOther at name q x
cases_entry at name q x =
    elim (cases_eq q at) [
      | inl e ↦ elim (cases_name x name) [
        | inl same ↦ inl (e, same)
        | inr ne ↦ inr (λ here same. ne same)
      ]
      | inr ne ↦ inr (λ here same. ne here)
    ]

-- ---- edits of nodes

-- a name means an inode, and each other name means what it meant
pub record IsNamed (old new : Nodes) (at : ℕ) (name : FileName) (ino : ℕ) : Type 0 where
  pub here : lookup new at name ≡ Some ino
  pub others : (q : ℕ) (x : FileName) → IsOther at name q x → lookup new q x ≡ lookup old q x

-- a name means nothing, and each other name means what it meant
pub record IsUnnamed (old new : Nodes) (at : ℕ) (name : FileName) : Type 0 where
  pub here : lookup new at name ≡ None
  pub others : (q : ℕ) (x : FileName) → IsOther at name q x → lookup new q x ≡ lookup old q x

-- each name means what it meant
abbrev pub MeanSame : Nodes → Nodes → Type 0
MeanSame old new = (q : ℕ) (x : FileName) → lookup new q x ≡ lookup old q x

module _ (nodes : Nodes) (at : ℕ) (d : Directory) (there : map.get nodes at ≡ Some (IsDirectory d)) where
  -- the directory's names after an edit of them
  edited : (entries : Entries) (name : FileName) → ((x : FileName) → x ≢ name → map.get entries x ≡ map.get d.entries x) → (q : ℕ) (x : FileName) → IsOther at name q x
      → lookup (map.insert nodes at (IsDirectory (record d { entries = entries }))) q x ≡ lookup nodes q x
  edited entries name same q x other =
      let node : Node = IsDirectory (record d { entries = entries }) in
      elim (cases_eq q at) [
        | inl e ↦ subst (λ (k : ℕ). lookup (map.insert nodes at node) k x ≡ lookup nodes k x) (sym e)
            (ap (meaning_in x) (at_key nodes at node) ∙ same x (λ is. other e is) ∙ sym (ap (meaning_in x) there))
        | inr ne ↦ ap (meaning_in x) (at_other nodes at node q ne)
      ]

  pub put_named : (name : FileName) (ino : ℕ) → IsNamed nodes (map.insert nodes at (with_name d name ino)) at name ino
  put_named name ino = record {
    here = ap (meaning_in name) (at_key nodes at (with_name d name ino)) ∙ get_same nat_list_cmp_total names_same d.entries name ino;
    others = edited (map.insert d.entries name ino) name (get_other nat_list_cmp_total names_same d.entries name ino);
  }

  pub take_unnamed : (name : FileName) → IsUnnamed nodes (map.insert nodes at (without_name d name)) at name
  take_unnamed name = record {
    here = ap (meaning_in name) (at_key nodes at (without_name d name)) ∙ gone_same nat_list_cmp_total names_same d.entries name;
    others = edited (map.remove d.entries name) name (gone_other nat_list_cmp_total names_same d.entries name);
  }

pub set_same : (nodes : Nodes) (ino : ℕ) (node : Node) → ((x : FileName) → meaning_in x (Some node) ≡ lookup nodes ino x) → MeanSame nodes (map.insert nodes ino node)
set_same nodes ino node same q x =
    elim (cases_eq q ino) [
      | inl e ↦ subst (λ (k : ℕ). lookup (map.insert nodes ino node) k x ≡ lookup nodes k x) (sym e) (ap (meaning_in x) (at_key nodes ino node) ∙ same x)
      | inr ne ↦ ap (meaning_in x) (at_other nodes ino node q ne)
    ]

-- ---- what is at an inode

directory_is : (node : Node) (d : Directory) → as_directory node ≡ Ok d → node ≡ IsDirectory d
directory_is (IsDirectory x) d h = let e : x ≡ d = cc in ap IsDirectory e
directory_is (IsFile f) d h = absurd cc

file_is : (node : Node) (f : File) → as_file node ≡ Ok f → node ≡ IsFile f
file_is (IsFile x) f h = let e : x ≡ f = cc in ap IsFile e
file_is (IsDirectory d) f h = absurd cc

pub directory_ok : (nodes : Nodes) (ino : ℕ) (d : Directory) → directory_at nodes ino ≡ Ok d → map.get nodes ino ≡ Some (IsDirectory d)
directory_ok nodes ino d h =
    let there = bind_ok (node_at nodes ino) as_directory d h in
    need_ok (map.get nodes ino) no.NoEnt there.0 there.1 ∙ ap Some (directory_is there.0 d there.2)

pub file_ok : (nodes : Nodes) (ino : ℕ) (f : File) → file_at nodes ino ≡ Ok f → map.get nodes ino ≡ Some (IsFile f)
file_ok nodes ino f h =
    let there = bind_ok (node_at nodes ino) as_file f h in
    need_ok (map.get nodes ino) no.NoEnt there.0 there.1 ∙ ap Some (file_is there.0 f there.2)

pub at_directory : (nodes : Nodes) (ino : ℕ) (d : Directory) → map.get nodes ino ≡ Some (IsDirectory d) → directory_at nodes ino ≡ Ok d
at_directory nodes ino d there = ap (λ o. need o no.NoEnt >>= as_directory) there

-- ---- one name after another

abbrev pub step_in : FileName → Option Node → Maybe ℕ
step_in x o = (need o no.NoEnt >>= as_directory) >>= (λ d. need (map.get d.entries x) no.NoEnt)

step_in_ok : (o : Option Node) (x : FileName) (y : ℕ) → step_in x o ≡ Ok y → meaning_in x o ≡ Some y
step_in_ok None x y h = absurd cc
step_in_ok (Some (IsFile f)) x y h = absurd cc
step_in_ok (Some (IsDirectory d)) x y h = need_ok (map.get d.entries x) no.NoEnt y h

step_in_of : (o : Option Node) (x : FileName) (y : ℕ) → meaning_in x o ≡ Some y → step_in x o ≡ Ok y
step_in_of None x y h = absurd cc
step_in_of (Some (IsFile f)) x y h = absurd cc
step_in_of (Some (IsDirectory d)) x y h = ap (λ o. need o no.NoEnt) h

pub step_ok : (nodes : Nodes) (q : ℕ) (x : FileName) (y : ℕ) → step_to nodes q x ≡ Ok y → lookup nodes q x ≡ Some y
step_ok nodes q x y h = step_in_ok (map.get nodes q) x y h

pub step_of : (nodes : Nodes) (q : ℕ) (x : FileName) (y : ℕ) → lookup nodes q x ≡ Some y → step_to nodes q x ≡ Ok y
step_of nodes q x y h = step_in_of (map.get nodes q) x y h

pub walk_first : (nodes : Nodes) (q : ℕ) (x : FileName) (rest : List FileName) (z : ℕ) → walk nodes q (x ∷ rest) ≡ Ok z → (y : ℕ) × (lookup nodes q x ≡ Some y) × (walk nodes y rest ≡ Ok z)
walk_first nodes q x rest z h =
    let first = bind_ok (step_to nodes q x) (λ next. walk nodes next rest) z h in
    (first.0, step_ok nodes q x first.0 first.1, first.2)

pub walk_on : (nodes : Nodes) (q : ℕ) (x : FileName) (rest : List FileName) (y : ℕ) → lookup nodes q x ≡ Some y → walk nodes q (x ∷ rest) ≡ walk nodes y rest
walk_on nodes q x rest y h = ap (λ m. m >>= (λ next. walk nodes next rest)) (step_of nodes q x y h)

pub walk_append : (nodes : Nodes) (q : ℕ) (front back : List FileName) (y : ℕ) → walk nodes q front ≡ Ok y → walk nodes q (front ++ back) ≡ walk nodes y back
walk_append nodes q [] back y h = let e : q ≡ y = cc in ap (λ k. walk nodes k back) e
walk_append nodes q (x ∷ front) back y h =
    let first = walk_first nodes q x front y h in
    walk_on nodes q x (front ++ back) first.0 first.1 ∙ walk_append nodes first.0 front back y first.2

-- a walk goes on where each name that meant something means it still
pub walk_more : (old new : Nodes) → ((q : ℕ) (x : FileName) (y : ℕ) → lookup old q x ≡ Some y → lookup new q x ≡ Some y) → (q : ℕ) (names : List FileName) (z : ℕ) → walk old q names ≡ Ok z → walk new q names ≡ Ok z
walk_more old new more q [] z h = h
walk_more old new more q (x ∷ rest) z h =
    let first = walk_first old q x rest z h in
    walk_on new q x rest first.0 (more q x first.0 first.1) ∙ walk_more old new more first.0 rest z first.2

-- no walk leads on from where no name means anything
pub walk_ends : (nodes : Nodes) (ino : ℕ) → ((x : FileName) → lookup nodes ino x ≡ None) → (names : List FileName) (z : ℕ) → walk nodes ino names ≡ Ok z → ino ≡ z
walk_ends nodes ino none [] z h = cc
walk_ends nodes ino none (x ∷ rest) z h =
    let first = walk_first nodes ino x rest z h in
    let e : None ≡ Some first.0 = sym (none x) ∙ first.1 in absurd cc

-- a walk goes on without a name whose inode leads no further, where it doesn't end there
pub walk_less : (old new : Nodes) (at : ℕ) (name : FileName) (ino : ℕ) → lookup old at name ≡ Some ino → ((x : FileName) → lookup old ino x ≡ None)
    → ((q : ℕ) (x : FileName) → IsOther at name q x → lookup new q x ≡ lookup old q x) → (q : ℕ) (names : List FileName) (z : ℕ) → ino ≢ z → walk old q names ≡ Ok z → walk new q names ≡ Ok z
walk_less old new at name ino meant none others q [] z ne h = h
walk_less old new at name ino meant none others q (x ∷ rest) z ne h =
    let first = walk_first old q x rest z h in
    elim (cases_entry at name q x) [
      | inl here ↦
          let is : Some first.0 ≡ Some ino = sym first.1 ∙ ap (λ (k : ℕ). lookup old k x) here.0 ∙ ap (lookup old at) here.1 ∙ meant in
          let e : first.0 ≡ ino = cc in
          absurd (ne (walk_ends old ino none rest z (ap (λ k. walk old k rest) (sym e) ∙ first.2)))
      | inr other ↦ walk_on new q x rest first.0 (others q x other ∙ first.1) ∙ walk_less old new at name ino meant none others first.0 rest z ne first.2
    ]

-- ---- the end of a path

end_from_is : (name : FileName) (rest : List FileName) → name ∷ rest ≡ (path_end_from name rest).above ++ (path_end_from name rest).name ∷ []
end_from_is name [] = refl
end_from_is name (next ∷ rest) = ap (λ names. name ∷ names) (end_from_is next rest)

pub end_is : (names : List FileName) (end : PathEnd) → path_end names ≡ Some end → names ≡ end.above ++ end.name ∷ []
end_is [] end h = absurd cc
end_is (name ∷ rest) end h =
    let e : path_end_from name rest ≡ end = cc in
    end_from_is name rest ∙ ap (λ (p : PathEnd). p.above ++ p.name ∷ []) e

pub leads_to : (nodes : Nodes) (path : List ℕ) (names : List FileName) (end : PathEnd) (at : ℕ) → split path ≡ Some names → path_end names ≡ Some end → walk nodes root end.above ≡ Ok at
    → LeadsTo nodes path at end.name
leads_to nodes path names end at is last walked = record { above = end.above; names = is ∙ ap Some (end_is names end last); walked = walked }

-- the inode that a path names, by its last name
pub inode_at : (nodes new : Nodes) (path : List ℕ) (at : ℕ) (name : FileName) (l : LeadsTo nodes path at name) → walk new root l.above ≡ Ok at → inode_of new path ≡ walk new at (name ∷ [])
inode_at nodes new path at name l h = ap (λ o. need o no.BadName >>= walk new root) l.names ∙ walk_append new root l.above (name ∷ []) at h
