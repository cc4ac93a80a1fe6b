-- A new inode and its name, one after the other.
use Rattle.std.proofs.Common.{◌≡◌, ◌≢◌, ℕ, ◌-◌, ◌*◌, ◌<◌, ◌≤◌, Bool, Option, Some, None, Ok, Err, refl, sym, ◌∙◌, ap, subst, inl, inr}
use Rattle.std.specs.Prelude.{Result, is_none, IfOk, OnErr}
use Rattle.std.specs.FinMap as map
use Rattle.std.specs.declared.alloc.AllocError.{AllocError}
use Rattle.std.proofs.lemmas.Bool.{cases_eq, lt-ltb, le-ltb}
use Rattle.vx_base.proofs.Maps.{at_other, put_twice}
use Rattle.vx_base.specs.Paths.{FileName}
use Rattle.vx_base.specs.declared.refusal.Refusal.{Refusal}
use Rattle.vx_base.specs.declared.refusal.Refusal.TheVariants as no
use Rattle.vx_base.specs.declared.reply.Reply.{Reply}
use Rattle.vx_base.specs.declared.reply.Reply.TheVariants as say
use Rattle.vx_inode.specs.Tables.{Table, without_inode}
use Rattle.vx_inode.specs.declared.table.MakeRefusal.{MakeRefusal}
use Rattle.vx_inode.specs.declared.table.MakeRefusal.TheVariants as make
use Rattle.vx_model.specs.Edits.{with_nodes, with_name, add_name, add_name_in, set_node}
use Rattle.vx_model.specs.Layout.{Layout, add_entry}
use Rattle.vx_model.specs.Making.{make_as, make_in, make_at}
use Rattle.vx_model.specs.Outcome.{Maybe, ◌>>=◌, unless, need}
use Rattle.vx_model.specs.State.{State, Done}
use Rattle.vx_model.specs.Touching.{Touched, untouched}
use Rattle.vx_model.specs.Tree.{Node, Directory, IsDirectory, lowest_unused}
use Rattle.vx_model.specs.Walks as walks
use Rattle.vx_txn.specs.Calls.{IsSettled}
use Rattle.vx_txn.specs.Edits.{IsEdited, IsRefused, IsMade, IsFullOf, refusal_reply}
use Rattle.vx_txn.specs.Makings.{full_reply}
use Rattle.vx_txn.specs.Metas.{directory_of, IsSound, IsUnchanged, Stands}
use Rattle.vx_txn.specs.Replies.{IsShort}
use Rattle.vx_txn.specs.declared.edits.EditRefusal.{EditRefusal}
use Rattle.vx_txn.specs.declared.edits.EditRefusal.TheVariants as edit
use Rattle.vx_txn.specs.declared.meta.Meta.{Meta}
use Rattle.vx_txn.proofs.CallLaws.{refused_settled}
use Rattle.vx_txn.proofs.Changes.{unchanged_stands}
use Rattle.vx_txn.proofs.NodeEdits.{no_directory, taken_back_table}

-- ---- no inode is made

module _ (s : State) (at : ℕ) (name : FileName) (node : Node) (t : Directory) (there : walks.directory_at s.tree.nodes at ≡ Ok t) where
  pub exists : (n : ℕ) → map.get t.entries name ≡ Some n → make_at s name node at ≡ Err no.Exist
  exists n is = ap (λ (r : Maybe Directory). r >>= make_in s at name node) there ∙ ap (λ (o : Option ℕ). unless (is_none o) no.Exist (make_as s at name node (lowest_unused s.layout.units s.tree.nodes))) is

  module _ (absent : map.get t.entries name ≡ None) where
    made_as : make_at s name node at ≡ make_as s at name node (lowest_unused s.layout.units s.tree.nodes)
    made_as = ap (λ (r : Maybe Directory). r >>= make_in s at name node) there ∙ ap (λ (o : Option ℕ). unless (is_none o) no.Exist (make_as s at name node (lowest_unused s.layout.units s.tree.nodes))) absent

    abbrev chain_of : ℕ → Maybe State → Maybe Done
    chain_of ino r = r >>= (λ named. Ok (record { state = set_node named ino node; reply = say.Made ino }))

    no_inodes : 128 * s.layout.units ≤ lowest_unused s.layout.units s.tree.nodes → make_at s name node at ≡ Err (no.NoInodes (128 * s.layout.units - 2))
    no_inodes full =
        let ino = lowest_unused s.layout.units s.tree.nodes in
        made_as ∙ ap (λ (b : Bool). unless b (no.NoInodes (128 * s.layout.units - 2)) (chain_of ino (add_name s at name ino))) (le-ltb ino (128 * s.layout.units) full)

    pub full_settled : (why : MakeRefusal) (r : Result Reply AllocError) (m k : Meta) (v : Touched) → r ≡ full_reply why → IsFullOf s why → Stands m s → IsUnchanged m k → v ≡ untouched → IfOk r (IsSettled s (make_at s name node at) k v)
    full_settled make.NoMemory r m k v is full stands same none = subst (λ (x : Result Reply AllocError). IfOk x (IsSettled s (make_at s name node at) k v)) (sym is) tt
    full_settled (make.NoInodes n) r m k v is full stands same none =
        let refused : make_at s name node at ≡ Err (no.NoInodes n) = no_inodes full.1 ∙ ap (λ (x : ℕ). Err (no.NoInodes x)) (sym full.0) in
        subst (λ (x : Result Reply AllocError). IfOk x (IsSettled s (make_at s name node at) k v)) (sym is)
        (subst (λ (x : Touched). IsSettled s (make_at s name node at) k x (say.Refused (no.NoInodes n))) (sym none) (refused_settled k s (unchanged_stands m k s same stands) (make_at s name node at) (no.NoInodes n) refused))

    -- ---- the inode first, and then its name

    module _ (ino : ℕ) (apart : at ≢ ino) (stands_there : map.get s.tree.nodes at ≡ Some (IsDirectory t)) (lowest : ino ≡ lowest_unused s.layout.units s.tree.nodes) (low : ino < 128 * s.layout.units) where
      abbrev first : State
      first = set_node s ino node

      abbrev finish : Maybe State → Maybe State
      finish r = r >>= (λ named. Ok (set_node named ino node))

      by_layout : (r : Maybe Layout) → (r >>= (λ (l : Layout). Ok (record { tree = with_nodes s.tree (map.insert (map.insert s.tree.nodes ino node) at (with_name t name ino)); layout = l })))
          ≡ finish (r >>= (λ (l : Layout). Ok (record { tree = with_nodes s.tree (map.insert s.tree.nodes at (with_name t name ino)); layout = l })))
      by_layout (Err why) = refl
      by_layout (Ok l) = ap (λ n. Ok (record { tree = with_nodes s.tree n; layout = l })) (put_twice s.tree.nodes ino at node (with_name t name ino) (λ e. apart (sym e)))

      first_there : walks.directory_at first.tree.nodes at ≡ Ok t
      first_there = ap (λ (o : Option Node). need o no.NoEnt >>= walks.as_directory) (at_other s.tree.nodes ino node at apart ∙ stands_there)

      commute : add_name first at name ino ≡ finish (add_name s at name ino)
      commute =
          ap (λ (r : Maybe Directory). r >>= add_name_in first at name ino) first_there
          ∙ by_layout (add_entry s.layout s.tree.tunables.initial_extent_size at (record { ino = ino; name = name }))
          ∙ sym (ap (λ (r : Maybe Directory). finish (r >>= add_name_in s at name ino)) there)

      ok_chain : (r : Maybe State) (new : State) → finish r ≡ Ok new → chain_of ino r ≡ Ok (record { state = new; reply = say.Made ino })
      ok_chain (Err why) new e = absurd (cc)
      ok_chain (Ok named) new e = let same : set_node named ino node ≡ new = cc in ap (λ (x : State). Ok (record { state = x; reply = say.Made ino })) same

      err_chain : (r : Maybe State) (why : Refusal) → finish r ≡ Err why → chain_of ino r ≡ Err why
      err_chain (Ok named) why e = absurd (cc)
      err_chain (Err w) why e = let same : w ≡ why = cc in ap (λ (x : Refusal). Err x) same

      whole : make_at s name node at ≡ chain_of ino (add_name s at name ino)
      whole =
          made_as ∙ ap (make_as s at name node) (sym lowest)
          ∙ ap (λ (b : Bool). unless b (no.NoInodes (128 * s.layout.units - 2)) (chain_of ino (add_name s at name ino))) (lt-ltb ino (128 * s.layout.units) low)

      pub made_settled : (r : Maybe State) (k : Meta) (v : Touched) → add_name first at name ino ≡ r → IsEdited s r k v → IsSettled s (make_at s name node at) k v (say.Made ino)
      made_settled (Err why) k v is edited = absurd edited
      made_settled (Ok new) k v is edited =
          let done : make_at s name node at ≡ Ok (record { state = new; reply = say.Made ino }) = whole ∙ ok_chain (add_name s at name ino) new (sym commute ∙ is) in
          subst (λ (c : Maybe Done). IsSettled s c k v (say.Made ino)) (sym done) (record { gone = edited; reply_is = refl })

      pub refusal_settled : (refusal : EditRefusal) (r : Result Reply AllocError) (m k : Meta) (v : Touched) → r ≡ refusal_reply refusal → IsRefused (add_name first at name ino) refusal → Stands m s → IsUnchanged m k → v ≡ untouched
          → IfOk r (IsSettled s (make_at s name node at) k v)
      refusal_settled edit.NoMemory r m k v is refused stands same none = subst (λ (x : Result Reply AllocError). IfOk x (IsSettled s (make_at s name node at) k v)) (sym is) tt
      refusal_settled (edit.Refused why) r m k v is refused stands same none =
          let chain : make_at s name node at ≡ Err why = whole ∙ err_chain (add_name s at name ino) why (sym commute ∙ refused.0) in
          subst (λ (x : Result Reply AllocError). IfOk x (IsSettled s (make_at s name node at) k v)) (sym is)
          (subst (λ (x : Touched). IsSettled s (make_at s name node at) k x (say.Refused why)) (sym none) (refused_settled k s (unchanged_stands m k s same stands) (make_at s name node at) why chain))

-- ---- what is answered, and what is taken back

pub short_refusal : (refusal : EditRefusal) (r : Result Reply AllocError) (edited : Maybe State) → r ≡ refusal_reply refusal → IsRefused edited refusal → IfOk r IsShort
short_refusal edit.NoMemory r edited is refused = subst (λ (x : Result Reply AllocError). IfOk x IsShort) (sym is) tt
short_refusal (edit.Refused why) r edited is refused = subst (λ (x : Result Reply AllocError). IfOk x IsShort) (sym is) refused.1

pub short_full : (why : MakeRefusal) (r : Result Reply AllocError) → r ≡ full_reply why → IfOk r IsShort
short_full make.NoMemory r is = subst (λ (x : Result Reply AllocError). IfOk x IsShort) (sym is) tt
short_full (make.NoInodes n) r is = subst (λ (x : Result Reply AllocError). IfOk x IsShort) (sym is) refl

pub on_err : {T E P : Type 0} (r : Result T E) → P → OnErr r P
on_err (Ok x) p = tt
on_err (Err e) p = p

pub back_unchanged : (m a b k : Meta) (ino : ℕ) → IsSound m → IsMade m a ino → IsUnchanged a b → k.inodes ≡ without_inode b.inodes ino → directory_of k ino ≡ None → ((n : ℕ) → n ≢ ino → directory_of k n ≡ directory_of b n)
    → k.free ≡ b.free → k.first ≡ b.first → IsUnchanged m k
back_unchanged m a b k ino sound made same inodes here other free first = record {
  inodes = taken_back_table m.inodes a.inodes k.inodes ino made.inode made.unused made.inodes (inodes ∙ ap (λ (t : Table). without_inode t ino) same.inodes);
  directories = λ n. elim (cases_eq n ino) [
    | inl at ↦ subst (λ (x : ℕ). directory_of k x ≡ directory_of m x) (sym at) (here ∙ sym (no_directory m sound.state sound.stands.is ino made.unused))
    | inr ne ↦ other n ne ∙ same.directories n ∙ made.directories n ne
  ];
  free = free ∙ same.free ∙ made.free;
  first = first ∙ same.first ∙ made.first;
}
