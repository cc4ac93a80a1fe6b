-- Each file without a name is open.
use Rattle.std.proofs.Common.{◌≡◌, ◌≢◌, ℕ, Bool, true, false, cond, List, length, Option, Some, Ok, Err, inl, inr, refl, sym, ap, ◌∙◌, subst}
use Rattle.std.specs.Prelude.{◌==◌, IfSome, nat_lt, min}
use Rattle.std.specs.FinMap as map
use Rattle.std.proofs.lemmas.Bool.{cases_eq, eq-eqb, true≢false}
use Rattle.std.proofs.lemmas.Option.{none-some}
use Rattle.vx_base.proofs.Maps.{at_key, at_other}
use Rattle.vx_base.specs.declared.call.Call.{Call}
use Rattle.vx_base.specs.declared.call.Call.TheVariants as call
use Rattle.vx_base.specs.declared.call.Flag.{Flag}
use Rattle.vx_space.specs.Placing.{is_set}
use Rattle.vx_model.specs.Outcome.{Maybe}
use Rattle.vx_model.specs.Tree.{File, IsFile, Tree, HandleKey, Opened}
use Rattle.vx_model.specs.State.{State, Done, settled}
use Rattle.vx_model.specs.Edits.{with_nodes, set_node, drop_node}
use Rattle.vx_model.specs.LaidOut.{IsClosed}
use Rattle.vx_model.specs.Handles.{key_of, is_open}
use Rattle.vx_model.specs.Opened.{with_handles, pages_of, with_reserve, unreserved, last_closed, closed_by, open_path, close}
use Rattle.vx_model.specs.Bytes.{payload_bytes, overwritten, resized, read_file, read, write_file, write, cut_file, cut, truncate_file, truncate, fsync}
use Rattle.vx_model.specs.Settling.{settle}
use Rattle.vx_model.proofs.FileStep.{file_step}
use Rattle.vx_model.specs.KeepLaws.{IsReached}
use Rattle.vx_model.proofs.Handles.{opened_other, closed_other, open_is, key_cases}
use Rattle.vx_model.proofs.FileSuccesses.{answered, opens, goes_on, writes, truncates, fsyncs, ok_is}
use Rattle.vx_model.proofs.FileTelling.{removed_key, removed_other, told_settle}

-- the same, of a tree
abbrev pub Reached : Tree → Type 0
Reached t = (n : ℕ) (f : File) → map.get t.nodes n ≡ Some (IsFile f) → f.nlink ≡ 0 → IsClosed t n → ⊥

same_file : (f g : File) → Some (IsFile f) ≡ Some (IsFile g) → f ≡ g
same_file f g h = cc

module _ (t : Tree) (is : Reached t) where
  -- a file has other contents, and its names
  set_reached : (ino : ℕ) (f g : File) → map.get t.nodes ino ≡ Some (IsFile f) → g.nlink ≡ f.nlink → Reached (with_nodes t (map.insert t.nodes ino (IsFile g)))
  set_reached ino f g there links n x found none closed = elim (cases_eq n ino) [
    | inl e ↦
        let same : x ≡ g = same_file x g (sym found ∙ ap (map.get (map.insert t.nodes ino (IsFile g))) e ∙ at_key t.nodes ino (IsFile g)) in
        is ino f there (sym links ∙ ap (λ (y : File). y.nlink) (sym same) ∙ none) (subst (IsClosed t) e closed)
    | inr ne ↦ is n x (sym (at_other t.nodes ino (IsFile g) n ne) ∙ found) none closed
  ]

-- ---- a handle more

opened_reached : (s : State) (session handle : ℕ) (path : List ℕ) (flag : Flag) (done : Done) → Reached s.tree → open_path s session handle path flag ≡ Ok done → Reached done.state.tree
opened_reached s session handle path flag done is h =
    let o = opens s session handle path flag done h in
    let key : HandleKey = key_of session handle in
    let value : Opened = record { ino = o.ino; flag = flag } in
    subst (λ (d : Done). Reached d.state.tree) (sym o.is) (λ n f found none closed.
    is n f found none (λ q. key_cases (IfSome (map.get s.tree.handles q) (λ (v : Opened). v.ino ≢ n)) q key
    (λ same. subst (λ (x : Option Opened). IfSome x (λ (v : Opened). v.ino ≢ n)) (sym (ap (map.get s.tree.handles) same ∙ o.was_free)) tt)
    (λ other. subst (λ (x : Option Opened). IfSome x (λ (v : Opened). v.ino ≢ n)) (opened_other s.tree.handles key value q other) (closed q))))

-- ---- a handle less

module _ (s : State) (is : Reached s.tree) (key : HandleKey) (ino : ℕ) (flag : Flag) (f : File) (opened : map.get s.tree.handles key ≡ Some (record { ino = ino; flag = flag })) (there : map.get s.tree.nodes ino ≡ Some (IsFile f)) where
  abbrev left : State
  left = with_handles s (map.remove s.tree.handles key)

  -- no handle of another file has gone
  still_closed : (n : ℕ) → n ≢ ino → IsClosed left.tree n → IsClosed s.tree n
  still_closed n ne closed q = key_cases (IfSome (map.get s.tree.handles q) (λ (v : Opened). v.ino ≢ n)) q key
      (λ same. subst (λ (x : Option Opened). IfSome x (λ (v : Opened). v.ino ≢ n)) (sym (ap (map.get s.tree.handles) same ∙ opened)) (λ e. ne (sym e)))
      (λ other. subst (λ (x : Option Opened). IfSome x (λ (v : Opened). v.ino ≢ n)) (closed_other s.tree.handles key q other) (closed q))

  -- the file has a name, or it is open still
  named_reached : (f.nlink ≡ 0 → IsClosed left.tree ino → ⊥) → Reached left.tree
  named_reached named n x found none closed = elim (cases_eq n ino) [
    | inl e ↦
        let same : x ≡ f = same_file x f (sym found ∙ ap (map.get s.tree.nodes) e ∙ there) in
        named (ap (λ (y : File). y.nlink) (sym same) ∙ none) (subst (IsClosed left.tree) e closed)
    | inr ne ↦ is n x found none (still_closed n ne closed)
  ]

  gone_reached : Reached (with_nodes left.tree (map.remove s.tree.nodes ino))
  gone_reached n x found none closed = elim (cases_eq n ino) [
    | inl e ↦ absurd (none-some (IsFile x) (sym (ap (map.get (map.remove s.tree.nodes ino)) e ∙ removed_key s.tree.nodes ino) ∙ found))
    | inr ne ↦ is n x (sym (removed_other s.tree.nodes ino n ne) ∙ found) none (still_closed n ne closed)
  ]

  has_name : (f.nlink == 0) ≡ false → f.nlink ≡ 0 → IsClosed left.tree ino → ⊥
  has_name some none closed = absurd (true≢false (sym (eq-eqb f.nlink 0 none) ∙ some))

  reserve_reached : (reserve : ℕ) → (f.nlink == 0) ≡ false → Reached (with_nodes left.tree (map.insert s.tree.nodes ino (IsFile (record f { attrs = with_reserve f.attrs reserve }))))
  reserve_reached reserve some = set_reached left.tree (named_reached (has_name some)) ino f (record f { attrs = with_reserve f.attrs reserve }) there refl

  last_reached : (place : ℕ) (t u v : Bool) → (f.nlink == 0) ≡ t
      → Reached (cond t (drop_node left place ino) (cond u (unreserved left place ino f 0 0) (cond v (unreserved left place ino f (min f.attrs.reserve (pages_of (length f.bytes))) (pages_of (length f.bytes))) left))).tree
  last_reached place true u v none = gone_reached
  last_reached place false true v some = reserve_reached 0 some
  last_reached place false false true some = reserve_reached (min f.attrs.reserve (pages_of (length f.bytes))) some
  last_reached place false false false some = named_reached (has_name some)

  closed_reached : (place : ℕ) (t : Bool) → is_open left.tree ino ≡ t → Reached (cond t left (last_closed left place ino f)).tree
  closed_reached place true open_still = named_reached (λ none closed. open_is left.tree ino open_still closed)
  closed_reached place false none = last_reached place (f.nlink == 0) (is_set 8 f.attrs) (is_set 16 f.attrs) refl

-- ---- every call

sized_reached : (s : State) (place ino size : ℕ) (f : File) → Reached s.tree → map.get s.tree.nodes ino ≡ Some (IsFile f) → (t : Bool)
    → Reached (cond t (cut s place ino size f) (set_node s ino (IsFile (record f { bytes = resized size f.bytes })))).tree
sized_reached s place ino size f is there true = set_reached s.tree is ino f (cut_file size f) there refl
sized_reached s place ino size f is there false = set_reached s.tree is ino f (record f { bytes = resized size f.bytes }) there refl

answered_reached : (s : State) (m : Maybe Done) (done : Done) → Reached s.tree → ((d : Done) → m ≡ Ok d → Reached d.state.tree) → Some (settled s m) ≡ Some done → Reached done.state.tree
answered_reached s (Ok d) done is next h = subst (λ (x : Done). Reached x.state.tree) (answered s (Ok d) done h) (next d refl)
answered_reached s (Err why) done is next h = subst (λ (x : Done). Reached x.state.tree) (answered s (Err why) done h) is

reached_by : (s : State) (place session : ℕ) (c : Call) (done : Done) → Reached s.tree → file_step s place session c ≡ Some done → Reached done.state.tree
reached_by s place session (call.OpenFile handle path flag) done is h = answered_reached s (open_path s session handle path flag) done is (λ d e. opened_reached s session handle path flag d is e) h
reached_by s place session (call.Close handle) done is h =
    answered_reached s (close s place session handle) done is (λ d e.
    let key : HandleKey = key_of session handle in
    let left : State = with_handles s (map.remove s.tree.handles key) in
    let goes = goes_on s session handle (λ ino f. Ok (closed_by left place ino f)) d e in
    subst (λ (x : Done). Reached x.state.tree) (sym (ok_is (closed_by left place goes.on.ino goes.on.file) d goes.is))
    (closed_reached s is key goes.on.ino goes.on.flag goes.on.file goes.on.opened goes.on.there place (is_open left.tree goes.on.ino) refl)) h
reached_by s place session (call.Read handle offset count) done is h =
    answered_reached s (read s session handle offset count) done is (λ d e.
    let goes = goes_on s session handle (λ ino f. read_file s offset count f) d e in
    subst (λ (x : Done). Reached x.state.tree) (sym (ok_is _ d goes.is)) is) h
reached_by s place session (call.Write handle offset payload) done is h =
    answered_reached s (write s session handle offset payload) done is (λ d e.
    let goes = goes_on s session handle (λ ino f. write_file s ino offset (payload_bytes payload) f) d e in
    let f : File = goes.on.file in
    let w = writes s goes.on.ino offset (payload_bytes payload) f d goes.is in
    subst (λ (x : Done). Reached x.state.tree) (sym w.is) (set_reached s.tree is goes.on.ino f (record f { bytes = overwritten offset (payload_bytes payload) f.bytes }) goes.on.there refl)) h
reached_by s place session (call.Truncate handle size) done is h =
    answered_reached s (truncate s place session handle size) done is (λ d e.
    let goes = goes_on s session handle (λ ino f. truncate_file s place ino size f) d e in
    let t = truncates s place goes.on.ino size goes.on.file d goes.is in
    subst (λ (x : Done). Reached x.state.tree) (sym t.is) (sized_reached s place goes.on.ino size goes.on.file is goes.on.there (nat_lt size (length goes.on.file.bytes)))) h
reached_by s place session (call.Fsync handle) done is h =
    answered_reached s (fsync s session handle) done is (λ d e. subst (λ (x : Done). Reached x.state.tree) (sym (fsyncs s session handle d e)) is) h
reached_by s place session _ done is h = absurd cc

pub step_reached : (s : State) (place session : ℕ) (c : Call) (done : Done) → IsReached s → file_step s place session c ≡ Some done → IsReached done.state
step_reached s place session c done is h = record { nameless = reached_by s place session c done is.nameless h }

pub settled_reached : (s : State) (place ino : ℕ) → IsReached s → IsReached (settle s place ino)
settled_reached s place ino is = record { nameless = subst Reached (sym (told_settle s place ino)) is.nameless }
