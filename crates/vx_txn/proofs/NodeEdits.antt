-- An inode more and an inode less.
use Rattle.std.proofs.Common.{◌≡◌, ◌≢◌, ℕ, zero, suc, ◌+◌, ◌-◌, ◌*◌, ◌<◌, ◌≤◌, Bool, true, false, cond, [], ◌∷◌, ◌++◌, length, Option, Some, None, Ok, Err, refl, sym, ◌∙◌, ap, subst, arith, inl, inr}
use Rattle.std.specs.Prelude.{◌⊎◌, Result, is_some}
use Rattle.std.specs.Option.{option_map}
use Rattle.std.specs.FinMap as map
use Rattle.std.proofs.lemmas.Bool.{cases_Bool, cases_lt, eqb-true}
use Rattle.std.proofs.lemmas.Option.{none-some}
use Rattle.vx_base.specs.Rules.{lowest_absent, lowest_unused}
use Rattle.vx_base.proofs.Maps.{at_key, at_other, taken_back}
use Rattle.vx_base.specs.declared.inode.Inode.{Inode}
use Rattle.vx_base.specs.declared.inode.InodeValue.{InodeValue}
use Rattle.vx_base.specs.declared.kind.FileKind.{FileKind}
use Rattle.vx_base.specs.declared.kind.FileKind.TheVariants as kind
use Rattle.vx_inode.proofs.Counts.{len_more, len_within}
use Rattle.vx_inode.specs.Tables.{Inodes, Table, inode_at, is_used, with_inode, without_inode, new_inode, is_full, make_answer}
use Rattle.vx_inode.specs.declared.table.MakeRefusal.{MakeRefusal}
use Rattle.vx_inode.specs.declared.table.MakeRefusal.TheVariants as make
use Rattle.vx_model.specs.Contents.{Held, settled_of}
use Rattle.vx_model.specs.EditLaws.{EditLaws}
use Rattle.vx_model.specs.Edits.{set_node}
use Rattle.vx_model.specs.LaidOut.{IsHeld, HasNothing, IsLaidOut, IsPlain}
use Rattle.vx_model.specs.Layout.{Layout, blocks_at, maps_at}
use Rattle.vx_model.specs.State.{State}
use Rattle.vx_model.specs.Touching.{Touched, inode_touched}
use Rattle.vx_model.specs.Tree.{Node, Nodes, no_attrs}
use Rattle.vx_txn.specs.Calls.{HasGone}
use Rattle.vx_txn.specs.Directories.{DirectoryValue, IsDirectory, blocks_in, maps_in}
use Rattle.vx_txn.specs.Edits.{IsFullOf, new_node, empty_directory, new_directory_at}
use Rattle.vx_txn.specs.Metas.{HasDirectory, directory_of, IsStateOf, Stands}
use Rattle.vx_txn.specs.declared.meta.Meta.{Meta}
use Rattle.vx_txn.proofs.Changes.{set_state, set_here, set_change, touched_inode, next_gone, stands_of}
use Rattle.vx_txn.proofs.StateLaws.{inode_of_node, inode_of_option, held, none_here, blocks_here, maps_here}

-- ---- the lowest unused number

mapped : {A B C : Type 0} (f : B → C) (g : A → B) (o : Option A) → is_some (option_map f (option_map g o)) ≡ is_some o
mapped f g None = refl
mapped f g (Some x) = refl

same_used : (m : Meta) (s : State) → Stands m s → (q : ℕ) → is_some (map.get s.tree.nodes q) ≡ is_some (inode_at m.inodes q)
same_used m s is q = sym (ap is_some (held m s is q) ∙ mapped (λ (v : InodeValue). v.inode) _ (map.get s.tree.nodes q))

same_lowest : (nodes : Nodes) (inodes : Inodes) → ((q : ℕ) → is_some (map.get nodes q) ≡ is_some (map.get inodes q)) → (fuel from : ℕ) → lowest_absent nodes fuel from ≡ lowest_absent inodes fuel from
same_lowest nodes inodes same zero from = refl
same_lowest nodes inodes same (suc more) from =
    ap (λ (b : Bool). cond b (lowest_absent nodes more (from + 1)) from) (same from) ∙ ap (λ (x : ℕ). cond (is_some (map.get inodes from)) x from) (same_lowest nodes inodes same more (from + 1))

pub lowest_is : (m : Meta) (s : State) → Stands m s → lowest_unused s.layout.units s.tree.nodes ≡ lowest_unused m.inodes.units m.inodes.inodes
lowest_is m s is = same_lowest s.tree.nodes m.inodes.inodes (same_used m s is) (128 * s.layout.units) 3 ∙ ap (λ (u : ℕ). lowest_absent m.inodes.inodes (128 * u) 3) is.is.units

lowest_low : (inodes : Inodes) (fuel from : ℕ) → from ≤ lowest_absent inodes fuel from
lowest_low inodes zero from = omega arith
lowest_low inodes (suc more) from = elim (cases_Bool (is_some (map.get inodes from))) [
  | inl hit ↦ rw hit (let e = lowest_low inodes more (from + 1) in omega arith)
  | inr miss ↦ rw miss (omega arith)
]

lowest_none : (inodes : Inodes) (fuel from : ℕ) → lowest_absent inodes fuel from < from + fuel → is_some (map.get inodes (lowest_absent inodes fuel from)) ≡ false
lowest_none inodes zero from lt = absurd (omega arith)
lowest_none inodes (suc more) from lt = elim (cases_Bool (is_some (map.get inodes from))) [
  | inl hit ↦
      let e : lowest_absent inodes (suc more) from ≡ lowest_absent inodes more (from + 1) = rw hit refl in
      ap (λ (x : ℕ). is_some (map.get inodes x)) e ∙ lowest_none inodes more (from + 1) (omega arith)
  | inr miss ↦
      let e : lowest_absent inodes (suc more) from ≡ from = rw miss refl in
      ap (λ (x : ℕ). is_some (map.get inodes x)) e ∙ miss
]

none_of : {A : Type 0} (o : Option A) → is_some o ≡ false → o ≡ None
none_of None is = refl
none_of (Some x) is = absurd (cc)

held_low : (l : Layout) (n : ℕ) (o : Option Node) → IsHeld l n o → n < 2 → o ≡ None
held_low l n None h lt = refl
held_low l n (Some node) h lt = absurd (let low : 2 ≤ n = h.1 in omega arith)

held_high : (l : Layout) (n : ℕ) (o : Option Node) → IsHeld l n o → 128 * l.units ≤ n → o ≡ None
held_high l n None h le = refl
held_high l n (Some node) h le = absurd (let high : n < 128 * l.units = h.2 in omega arith)

module _ (m : Meta) (s : State) (is : Stands m s) where
  unused_by : (q : ℕ) → map.get s.tree.nodes q ≡ None → inode_at m.inodes q ≡ None
  unused_by q none = held m s is q ∙ ap (inode_of_option (settled_of s.layout q)) none

  below_2 : (q : ℕ) → q < 2 → inode_at m.inodes q ≡ None
  below_2 q lt = unused_by q (held_low s.layout q (map.get s.tree.nodes q) (is.laid_out.nodes q) lt)

  past_units : (q : ℕ) → 128 * m.inodes.units ≤ q → inode_at m.inodes q ≡ None
  past_units q le = unused_by q (held_high s.layout q (map.get s.tree.nodes q) (is.laid_out.nodes q) (let e : s.layout.units ≡ m.inodes.units = is.is.units in omega arith))

  full_none : is_full m.inodes ≡ true → 128 * m.inodes.units ≤ lowest_unused m.inodes.units m.inodes.inodes
  full_none full = elim (cases_lt (lowest_unused m.inodes.units m.inodes.inodes) (128 * m.inodes.units)) [
    | inl lt ↦
        let x = lowest_unused m.inodes.units m.inodes.inodes in
        let low : 3 ≤ x = lowest_low m.inodes.inodes (128 * m.inodes.units) 3 in
        let none : inode_at m.inodes x ≡ None = none_of (inode_at m.inodes x) (lowest_none m.inodes.inodes (128 * m.inodes.units) 3 (omega arith)) in
        let node : Inode = new_inode kind.File 0 in
        let more = len_more m.inodes.inodes x node none in
        let most = len_within (map.insert m.inodes.inodes x node) 2 (128 * m.inodes.units - 2)
        (λ q h. at_other m.inodes.inodes x node q (λ e. absurd (omega arith)) ∙ below_2 q h)
        (λ q h. at_other m.inodes.inodes x node q (λ e. absurd (omega arith)) ∙ past_units q (omega arith)) in
        let count : map.len m.inodes.inodes ≡ 128 * m.inodes.units - 2 = eqb-true _ _ full in
        absurd (omega arith)
    | inr le ↦ le
  ]

  full_by : (full : Bool) (n : ℕ) → is_full m.inodes ≡ full → Err (make.NoInodes n) ≡ cond full (Err (make.NoInodes (128 * m.inodes.units - 2))) (Ok (lowest_unused m.inodes.units m.inodes.inodes)) → IsFullOf s (make.NoInodes n)
  full_by true n is_full answer =
      let count : n ≡ 128 * m.inodes.units - 2 = (let e = answer in cc) in
      let units : s.layout.units ≡ m.inodes.units = is.is.units in
      let lowest = lowest_is m s is in
      let le = full_none is_full in
      (omega arith, omega arith)
  full_by false n is_full answer = absurd (let e = answer in cc)

  -- why no inode is made
  pub refusal_is : (why : MakeRefusal) → (Err why ≡ make_answer m.inodes) ⊎ (◌≡◌ {A = Result ℕ MakeRefusal} (Err why) (Err make.NoMemory)) → IsFullOf s why
  refusal_is make.NoMemory answer = tt
  refusal_is (make.NoInodes n) (inl answer) = full_by (is_full m.inodes) n refl answer
  refusal_is (make.NoInodes n) (inr other) = absurd (cc)

  ok_by : (full : Bool) (n : ℕ) → Ok n ≡ cond full (Err (make.NoInodes (128 * m.inodes.units - 2))) (Ok (lowest_unused m.inodes.units m.inodes.inodes)) → n ≡ lowest_unused m.inodes.units m.inodes.inodes
  ok_by true n answer = absurd (cc)
  ok_by false n answer = cc

  pub made_lowest : (n : ℕ) → (Ok n ≡ make_answer m.inodes) ⊎ (◌≡◌ {A = Result ℕ MakeRefusal} (Ok n) (Err make.NoMemory)) → n ≡ lowest_unused s.layout.units s.tree.nodes
  made_lowest n (inl answer) = ok_by (is_full m.inodes) n answer ∙ sym (lowest_is m s is)
  made_lowest n (inr other) = absurd (cc)

-- ---- an inode more

no_directory_by : (o : Option DirectoryValue) → HasDirectory None o → o ≡ None
no_directory_by None has = refl
no_directory_by (Some d) has = absurd has

-- what has no inode has no directory
pub no_directory : (m : Meta) (s : State) → IsStateOf m s → (n : ℕ) → inode_at m.inodes n ≡ None → directory_of m n ≡ None
no_directory m s is n none = no_directory_by (directory_of m n) (subst (λ (i : Option Inode). HasDirectory i (directory_of m n)) none (is.kinds n))

new_is : (h : Held) (k : FileKind) (mode : ℕ) → h.size ≡ 0 → new_inode k mode ≡ inode_of_node h (new_node k mode)
new_is h kind.File mode none = ap (λ (n : ℕ). record (new_inode kind.File mode) { size = n }) (sym none)
new_is h kind.Directory mode none = ap (λ (n : ℕ). record (new_inode kind.Directory mode) { size = n }) (sym none)

new_blocks : (k : FileKind) → blocks_in (new_directory_at k None) ≡ []
new_blocks kind.File = refl
new_blocks kind.Directory = refl

new_maps : (k : FileKind) → maps_in (new_directory_at k None) ≡ []
new_maps kind.File = refl
new_maps kind.Directory = refl

pub empty_shape : IsDirectory empty_directory
empty_shape = record { block_size = refl; limit = refl; settled = refl; size = refl; same_count = refl; pages = refl }

new_kind : (h : Held) (k : FileKind) (mode : ℕ) → HasDirectory (Some (inode_of_node h (new_node k mode))) (new_directory_at k None)
new_kind h kind.File mode = refl
new_kind h kind.Directory mode = (refl, empty_shape)

-- where there is no node, nothing stands on the device
nothing_by : (l : Layout) (n : ℕ) (o : Option Node) → IsHeld l n o → o ≡ None → HasNothing l n
nothing_by l n None held none = held
nothing_by l n (Some node) held none = absurd (none-some node (sym none))

new_laid_out : (laws : EditLaws) (s : State) (n mode : ℕ) (k : FileKind) → IsLaidOut s → mode ≤ 4095 → 3 ≤ n → n < 128 * s.layout.units → map.get s.tree.nodes n ≡ None → HasNothing s.layout n → IsLaidOut (set_node s n (new_node k mode))
new_laid_out laws s n mode kind.File laid low from high none blocks =
    laws.file_set s n (record { mode = mode; nlink = 1; attrs = no_attrs; bytes = [] }) laid (laws.plain_file s.layout n (record { mode = mode; nlink = 1; attrs = no_attrs; bytes = [] }) low (omega arith) (record { some_links = omega arith; attrs = refl; bytes = refl }) blocks)
    (λ e. absurd (omega arith)) (omega arith) high
new_laid_out laws s n mode kind.Directory laid low from high none blocks = laws.directory_set s n mode laid low (omega arith) high none

new_plain : (laws : EditLaws) (s : State) (n mode : ℕ) (k : FileKind) → IsPlain s → HasNothing s.layout n → IsPlain (set_node s n (new_node k mode))
new_plain laws s n mode kind.File plain none = laws.file_plain s n (record { mode = mode; nlink = 1; attrs = no_attrs; bytes = [] }) plain (record { some_links = omega arith; attrs = refl; bytes = refl }) none
new_plain laws s n mode kind.Directory plain none = laws.directory_plain s n mode plain

module _ (laws : EditLaws) (base s : State) (m k : Meta) (t v : Touched) (gone : HasGone base s m t) (at : ℕ) where
  pub made_gone : (f : FileKind) (mode : ℕ) → mode ≤ 4095 → 3 ≤ at → at < 128 * m.inodes.units → inode_at m.inodes at ≡ None → k.inodes ≡ with_inode m.inodes at (new_inode f mode)
      → directory_of k at ≡ new_directory_at f (directory_of m at) → ((n : ℕ) → n ≢ at → directory_of k n ≡ directory_of m n) → k.free ≡ m.free → k.first ≡ m.first → v ≡ record t { inodes = t.inodes ++ at ∷ [] }
      → HasGone base (set_node s at (new_node f mode)) k v
  made_gone f mode low from high unused inodes here other free first touched =
      let stands = stands_of base s m t gone in
      let node : Node = new_node f mode in
      let none : directory_of m at ≡ None = no_directory m s gone.state at unused in
      let absent = none_here m s stands at unused in
      let nothing = nothing_by s.layout at (map.get s.tree.nodes at) (gone.laid_out.nodes at) absent in
      let blocks : blocks_at s.layout at ≡ [] = blocks_here m s stands at None none in
      let maps : maps_at s.layout at ≡ [] = maps_here m s stands at None none in
      let h : Held = settled_of s.layout at in
      let size : h.size ≡ 0 = (λ i. 1024 * length (blocks i) + (nothing.space i).size) in
      let i : Inode = inode_of_node h node in
      let set : k.inodes ≡ with_inode m.inodes at i = inodes ∙ ap (with_inode m.inodes at) (new_is h f mode size) in
      let value : directory_of k at ≡ new_directory_at f None = here ∙ ap (new_directory_at f) none in
      let there : inode_at k.inodes at ≡ Some i = set_here m k at i set in
      next_gone laws base s (set_node s at node) m k t (inode_touched at) v gone
      (set_state m k s at node gone.state (set_change m k at i set other first) free there
      (blocks ∙ sym (ap blocks_in value ∙ new_blocks f)) (maps ∙ sym (ap maps_in value ∙ new_maps f))
      (subst (λ (x : Option Inode). HasDirectory x (directory_of k at)) (sym there) (subst (λ (o : Option DirectoryValue). HasDirectory (Some i) o) (sym value) (new_kind h f mode))))
      (new_laid_out laws s at mode f gone.laid_out low from (subst (λ (u : ℕ). at < 128 * u) (sym gone.state.units) high) absent nothing)
      (new_plain laws s at mode f gone.plain nothing)
      (laws.set_touches s at node) (touched ∙ touched_inode t at)

-- an inode that is taken back
pub taken_back_table : (t a b : Table) (at : ℕ) (i : Inode) → inode_at t at ≡ None → a ≡ with_inode t at i → b ≡ without_inode a at → b ≡ t
taken_back_table t a b at i none made less = less ∙ ap (λ (x : Table). without_inode x at) made ∙ ap (λ (x : Inodes). record t { inodes = x }) (taken_back t.inodes at i none)

pub used_after : (t a : Table) (at : ℕ) (i : Inode) → a ≡ with_inode t at i → is_used a at ≡ true
used_after t a at i made = ap (λ (x : Table). is_used x at) made ∙ ap is_some (at_key t.inodes at i)

-- an inode in use is one of the units'
pub used_low : (m : Meta) (s : State) → Stands m s → (n : ℕ) → is_used m.inodes n ≡ true → n < 128 * s.layout.units
used_low m s is n used = elim (cases_lt n (128 * s.layout.units)) [
  | inl lt ↦ lt
  | inr le ↦
      let none : inode_at m.inodes n ≡ None = past_units m s is n (let e : s.layout.units ≡ m.inodes.units = is.is.units in omega arith) in
      absurd (let e : is_some (inode_at m.inodes n) ≡ is_some {T = Inode} None = ap is_some none in cc)
]
