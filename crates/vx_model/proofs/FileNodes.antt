-- A call on a file changes one file at most, and no name.
use Rattle.std.proofs.Common.{◌≡◌, ◌⊎◌, ℕ, Bool, true, false, cond, List, [], length, Option, Some, None, Ok, Err, inl, inr, refl, sym, ap, ◌∙◌, subst}
use Rattle.std.specs.Prelude.{◌==◌, nat_lt, min}
use Rattle.std.specs.FinMap as map
use Rattle.std.proofs.lemmas.Bool.{cases_eq, eqb-true}
use Rattle.vx_base.specs.declared.call.Call.{Call}
use Rattle.vx_base.specs.declared.call.Call.TheVariants as call
use Rattle.vx_space.specs.Placing.{is_set}
use Rattle.vx_model.specs.Outcome.{Maybe}
use Rattle.vx_model.specs.Tree.{Nodes, File, IsFile}
use Rattle.vx_model.specs.Layout.{DirectoryBlock, blocks_at}
use Rattle.vx_model.specs.State.{State, Done, settled}
use Rattle.vx_model.specs.Walks.{file_at}
use Rattle.vx_model.specs.Edits.{set_node, drop_node}
use Rattle.vx_model.specs.Handles.{key_of, is_open}
use Rattle.vx_model.specs.Opened.{with_handles, pages_of, with_reserve, unreserved, last_closed, closed_by, open_path, close}
use Rattle.vx_model.specs.Bytes.{payload_bytes, overwritten, resized, cut, cut_file, read_file, read, write_file, write, truncate_file, truncate, fsync}
use Rattle.vx_model.specs.Settling.{settle_file, settle}
use Rattle.vx_model.proofs.FileStep.{file_step}
use Rattle.vx_model.proofs.FileSuccesses.{answered, opens, goes_on, writes, truncates, fsyncs, ok_is}

-- nothing has changed, or one file that has as many names as before; or a file without a name is gone
pub data Alters (old new : Nodes) : Type 0 where
  stays : new ≡ old → Alters old new
  sets : (ino : ℕ) (f g : File) → map.get old ino ≡ Some (IsFile f) → g.nlink ≡ f.nlink → new ≡ map.insert old ino (IsFile g) → Alters old new
  drops : (ino : ℕ) (f : File) → map.get old ino ≡ Some (IsFile f) → f.nlink ≡ 0 → new ≡ map.remove old ino → Alters old new

-- the directories' blocks are as they were, but for those of an inode that is gone
abbrev Same : State → State → Type 0
Same s new = (n : ℕ) → (blocks_at new.layout n ≡ blocks_at s.layout n) ⊎ (blocks_at new.layout n ≡ [])

pub record Alone (s new : State) : Type 0 where
  pub nodes : Alters s.tree.nodes new.tree.nodes
  pub blocks : Same s new

nothing : (s new : State) → new.tree.nodes ≡ s.tree.nodes → new.layout ≡ s.layout → Alone s new
nothing s new nodes layout = record { nodes = stays nodes; blocks = λ n. inl (ap (λ l. blocks_at l n) layout) }

gone_by : (t : Bool) (old : List DirectoryBlock) → (cond t [] old ≡ old) ⊎ (cond t [] old ≡ [])
gone_by true old = inr refl
gone_by false old = inl refl

module _ (s : State) (place ino : ℕ) (f : File) (there : map.get s.tree.nodes ino ≡ Some (IsFile f)) where
  cut_alone : (size : ℕ) (t : Bool) → Alone s (cond t (cut s place ino size f) (set_node s ino (IsFile (record f { bytes = resized size f.bytes }))))
  cut_alone size true = record { nodes = sets ino f (cut_file size f) there refl refl; blocks = λ n. inl refl }
  cut_alone size false = record { nodes = sets ino f (record f { bytes = resized size f.bytes }) there refl refl; blocks = λ n. inl refl }

  unreserved_alone : (reserve from : ℕ) → Alone s (unreserved s place ino f reserve from)
  unreserved_alone reserve from = record { nodes = sets ino f (record f { attrs = with_reserve f.attrs reserve }) there refl refl; blocks = λ n. inl refl }

  last_alone : (t u v : Bool) → (f.nlink == 0) ≡ t
      → Alone s (cond t (drop_node s place ino) (cond u (unreserved s place ino f 0 0) (cond v (unreserved s place ino f (min f.attrs.reserve (pages_of (length f.bytes))) (pages_of (length f.bytes))) s)))
  last_alone true u v none = record { nodes = drops ino f there (eqb-true f.nlink 0 none) refl; blocks = λ n. gone_by (n == ino) (blocks_at s.layout n) }
  last_alone false true v some = unreserved_alone 0 0
  last_alone false false true some = unreserved_alone (min f.attrs.reserve (pages_of (length f.bytes))) (pages_of (length f.bytes))
  last_alone false false false some = nothing s s refl refl

  closed_alone : (t : Bool) → Alone s (cond t s (last_closed s place ino f))
  closed_alone true = nothing s s refl refl
  closed_alone false = last_alone (f.nlink == 0) (is_set 8 f.attrs) (is_set 16 f.attrs) refl

answered_alone : (s : State) (m : Maybe Done) (done : Done) → ((d : Done) → m ≡ Ok d → Alone s d.state) → Some (settled s m) ≡ Some done → Alone s done.state
answered_alone s (Ok d) done next h = subst (λ (x : Done). Alone s x.state) (answered s (Ok d) done h) (next d refl)
answered_alone s (Err why) done next h = subst (λ (x : Done). Alone s x.state) (answered s (Err why) done h) (nothing s s refl refl)

pub file_alone : (s : State) (place session : ℕ) (c : Call) (done : Done) → file_step s place session c ≡ Some done → Alone s done.state
file_alone s place session (call.OpenFile handle path flag) done h =
    answered_alone s (open_path s session handle path flag) done (λ d e.
    let o = opens s session handle path flag d e in
    subst (λ (x : Done). Alone s x.state) (sym o.is) (nothing s _ refl refl)) h
file_alone s place session (call.Close handle) done h =
    answered_alone s (close s place session handle) done (λ d e.
    let left : State = with_handles s (map.remove s.tree.handles (key_of session handle)) in
    let goes = goes_on s session handle (λ ino f. Ok (closed_by left place ino f)) d e in
    let ino : ℕ = goes.on.ino in
    let f : File = goes.on.file in
    let closed : Alone left (closed_by left place ino f).state = closed_alone left place ino f goes.on.there (is_open left.tree ino) in
    subst (λ (x : Done). Alone s x.state) (sym (ok_is (closed_by left place ino f) d goes.is))
    (record { nodes = closed.nodes; blocks = closed.blocks })) h
file_alone s place session (call.Read handle offset count) done h =
    answered_alone s (read s session handle offset count) done (λ d e.
    let goes = goes_on s session handle (λ ino f. read_file s offset count f) d e in
    subst (λ (x : Done). Alone s x.state) (sym (ok_is _ d goes.is)) (nothing s s refl refl)) h
file_alone s place session (call.Write handle offset payload) done h =
    answered_alone s (write s session handle offset payload) done (λ d e.
    let goes = goes_on s session handle (λ ino f. write_file s ino offset (payload_bytes payload) f) d e in
    let f : File = goes.on.file in
    let w = writes s goes.on.ino offset (payload_bytes payload) f d goes.is in
    subst (λ (x : Done). Alone s x.state) (sym w.is)
    (record { nodes = sets goes.on.ino f (record f { bytes = overwritten offset (payload_bytes payload) f.bytes }) goes.on.there refl refl; blocks = λ n. inl refl })) h
file_alone s place session (call.Truncate handle size) done h =
    answered_alone s (truncate s place session handle size) done (λ d e.
    let goes = goes_on s session handle (λ ino f. truncate_file s place ino size f) d e in
    let t = truncates s place goes.on.ino size goes.on.file d goes.is in
    subst (λ (x : Done). Alone s x.state) (sym t.is) (cut_alone s place goes.on.ino goes.on.file goes.on.there size (nat_lt size (length goes.on.file.bytes)))) h
file_alone s place session (call.Fsync handle) done h =
    answered_alone s (fsync s session handle) done (λ d e. subst (λ (x : Done). Alone s x.state) (sym (fsyncs s session handle d e)) (nothing s s refl refl)) h
file_alone s place session _ done h = absurd cc

-- ---- a settle

pub settled_blocks : (s : State) (place ino n : ℕ) → blocks_at (settle s place ino).layout n ≡ blocks_at s.layout n
settled_blocks s place ino n = by (file_at s.tree.nodes ino)
  where
    by : (m : Maybe File) → blocks_at (settle_file s place ino m).layout n ≡ blocks_at s.layout n
    by (Ok f) = refl
    by (Err why) = refl

pub settled_units : (s : State) (place ino : ℕ) → (settle s place ino).layout.units ≡ s.layout.units
settled_units s place ino = by (file_at s.tree.nodes ino)
  where
    by : (m : Maybe File) → (settle_file s place ino m).layout.units ≡ s.layout.units
    by (Ok f) = refl
    by (Err why) = refl
