-- Each call on files keeps a state laid out.
use Rattle.std.proofs.Common.{◌≡◌, ℕ, ◌≤◌, Bool, true, false, cond, List, length, Option, Some, Ok, Err, refl, sym, ap, ◌∙◌, subst, arith}
use Rattle.std.specs.Prelude.{◌==◌, IfSome, nat_le, nat_lt, min}
use Rattle.std.specs.FinMap as map
use Rattle.std.proofs.lemmas.Bool.{ltb-true, ltb-false}
use Rattle.vx_base.proofs.Maps.{at_key, at_other}
use Rattle.vx_base.specs.declared.call.Call.{Call}
use Rattle.vx_base.specs.declared.call.Call.TheVariants as call
use Rattle.vx_base.specs.declared.call.Flag.{Flag}
use Rattle.vx_space.specs.Space.{Space, maps_needed}
use Rattle.vx_space.specs.Placing.{Filling, Request, is_set}
use Rattle.vx_space.specs.Leaving.{reserved_from, space_but, cut_space, waiting_then, kept_maps, surplus_maps}
use Rattle.vx_space.specs.Laws.{PlaceLaws, SettleLaws, CloseLaws}
use Rattle.vx_model.specs.Outcome.{Maybe}
use Rattle.vx_model.specs.Legal.{IfThere}
use Rattle.vx_model.specs.Tree.{Node, File, IsFile, HandleKey, Opened}
use Rattle.vx_model.specs.Layout.{space_at, maps_at, is_free, pended}
use Rattle.vx_model.specs.State.{State, Done, settled}
use Rattle.vx_model.specs.Walks.{file_at}
use Rattle.vx_model.specs.Edits.{set_node, drop_node}
use Rattle.vx_model.specs.EditLaws.{EditLaws}
use Rattle.vx_model.specs.LaidOut.{IsSpaceOf, IsFileNode, IsClosed, AreAttrs, IsLaidOut, most_bytes}
use Rattle.vx_model.specs.Handles.{key_of, is_open}
use Rattle.vx_model.specs.Opened.{with_handles, pages_of, with_reserve, pages_gone, unreserved, last_closed, closed_by, open_path, close}
use Rattle.vx_model.specs.Bytes.{payload_bytes, overwritten, resized, first_page, page_count, file_request, write_filling, read_file, read, write_file, write, cut_file, cut, truncate_file, truncate, fsync}
use Rattle.vx_model.specs.Settling.{space_settled, settle_file, settle}
use Rattle.vx_model.proofs.FileStep.{file_step}
use Rattle.vx_model.proofs.Changing.{file_held, file_changed, handles_changed, filled_once, less_once, not_root}
use Rattle.vx_model.proofs.Contents.{resized_long}
use Rattle.vx_model.proofs.Filling.{fill_longer}
use Rattle.vx_model.proofs.Giving.{but_less, maps_less}
use Rattle.vx_model.proofs.Handles.{opened_here, opened_other, closed_here, closed_other, closed_is, key_cases}
use Rattle.vx_model.proofs.Spaces.{cut_kept, grown_kept, trimmed_kept, unreserved_kept, settled_kept, write_filled, written_kept}
use Rattle.vx_model.proofs.FileSuccesses.{answered, opens, goes_on, writes, truncates, fsyncs, file_ok, ok_is}

-- ---- attributes

less_reserve : (f : File) (reserve : ℕ) → reserve ≤ f.attrs.reserve → AreAttrs f.attrs → AreAttrs (with_reserve f.attrs reserve)
less_reserve f reserve less h = record { fixed = h.fixed; reserve = (let was = h.reserve in omega (arith, was, less)); flags = h.flags }

module _ (s : State) (is : IsLaidOut s) where
  -- ---- a file that is there

  module _ (at : ℕ) (f : File) (there : map.get s.tree.nodes at ≡ Some (IsFile f)) where
    -- ---- write

    pub written_laid : PlaceLaws → (offset : ℕ) (new : List ℕ) (done : Done) → write_file s at offset new f ≡ Ok done → IsLaidOut done.state
    unfolding write_filling
    written_laid laws offset new done h =
        let w = writes s at offset new f done h in
        let held = file_held s is at f there in
        let x : Space = space_at s.layout at in
        let maps : List ℕ = maps_at s.layout at in
        let from : ℕ = first_page offset in
        let n : ℕ = page_count offset (length new) in
        let r : Request = file_request s.layout s.tree.tunables.initial_extent_size at f from n in
        let was : Filling = record { free = is_free s.layout; pages = x.present; maps = maps } in
        let filled = write_filled x maps f held.0.space r offset new (is_free s.layout) w.placed w.fits w.place_is in
        let has = laws.maps r x from n was w.placed w.place_is in
        let grown = laws.grows r x from n was w.placed is.tunables.some w.place_is in
        let g : File = record f { bytes = overwritten offset new f.bytes } in
        let y : Space = record x { present = w.placed.pages } in
        subst (λ (d : Done). IsLaidOut d.state) (sym w.is)
        (file_changed s is at f there (map.insert s.tree.nodes at (IsFile g)) g (at_key s.tree.nodes at (IsFile g)) (at_other s.tree.nodes at (IsFile g)) y w.placed.maps s.layout.pending held.0.mode held.0.few_links held.0.attrs
        (written_kept x maps f held.0.space offset new (is_free s.layout) w.placed w.fits filled (fill_longer r x from n was w.placed w.place_is) has) (filled_once s.layout is.use_of_blocks at y w.placed held.2 grown refl))

    -- ---- truncate

    sized_laid : EditLaws → (place size : ℕ) → size ≤ most_bytes → (t : Bool) → nat_lt size (length f.bytes) ≡ t
        → IsLaidOut (cond t (cut s place at size f) (set_node s at (IsFile (record f { bytes = resized size f.bytes }))))
    sized_laid edits place size fits true smaller =
        let held = file_held s is at f there in
        let x : Space = space_at s.layout at in
        let goes : ℕ → Bool = nat_le (pages_of size) in
        let g : File = cut_file size f in
        file_changed s is at f there (map.insert s.tree.nodes at (IsFile g)) g (at_key s.tree.nodes at (IsFile g)) (at_other s.tree.nodes at (IsFile g)) (cut_space (pages_of size) size x) (maps_at s.layout at)
        (pended place (waiting_then goes x) s.layout.pending) held.0.mode held.0.few_links (less_reserve f (min f.attrs.reserve (pages_of size)) (omega arith) held.0.attrs)
        (cut_kept x (maps_at s.layout at) f held.0.space size (ltb-true size (length f.bytes) smaller))
        (less_once s.layout is.use_of_blocks at (cut_space (pages_of size) size x) (maps_at s.layout at) place (waiting_then goes x) (λ b. but_less goes b x (maps_at s.layout at) held.0.space.part))
    sized_laid edits place size fits false larger =
        let held = file_held s is at f there in
        let bytes : List ℕ = resized size f.bytes in
        let long = resized_long size f.bytes in
        let not_less = ltb-false size (length f.bytes) larger in
        edits.file_set s at (record f { bytes = bytes }) is (record {
          mode = held.0.mode;
          few_links = held.0.few_links;
          attrs = held.0.attrs;
          space = grown_kept (space_at s.layout at) (maps_at s.layout at) f held.0.space bytes (omega (arith, long, not_less)) (omega (arith, long, fits));
          no_blocks = held.0.no_blocks;
        }) (λ e. not_root s is at f there (sym e)) held.1 held.2

    pub truncated_laid : EditLaws → (place size : ℕ) (done : Done) → truncate_file s place at size f ≡ Ok done → IsLaidOut done.state
    truncated_laid edits place size done h =
        let t = truncates s place at size f done h in
        subst (λ (d : Done). IsLaidOut d.state) (sym t.is) (sized_laid edits place size t.fits (nat_lt size (length f.bytes)) refl)

    -- ---- the last close

    -- reserved pages go
    gone_laid : (place reserve : ℕ) (goes : ℕ → Bool) → reserve ≤ f.attrs.reserve → IsSpaceOf (space_but goes (space_at s.layout at)) (maps_at s.layout at) (record f { attrs = with_reserve f.attrs reserve })
        → IsLaidOut (record (set_node s at (IsFile (record f { attrs = with_reserve f.attrs reserve }))) { layout = pages_gone s.layout place at goes })
    gone_laid place reserve goes less space =
        let held = file_held s is at f there in
        let x : Space = space_at s.layout at in
        let g : File = record f { attrs = with_reserve f.attrs reserve } in
        file_changed s is at f there (map.insert s.tree.nodes at (IsFile g)) g (at_key s.tree.nodes at (IsFile g)) (at_other s.tree.nodes at (IsFile g)) (space_but goes x) (maps_at s.layout at)
        (pended place (waiting_then goes x) s.layout.pending) held.0.mode held.0.few_links (less_reserve f reserve less held.0.attrs) space
        (less_once s.layout is.use_of_blocks at (space_but goes x) (maps_at s.layout at) place (waiting_then goes x) (λ b. but_less goes b x (maps_at s.layout at) held.0.space.part))

    last_by : EditLaws → CloseLaws → (place : ℕ) → IsClosed s.tree at → (t u v : Bool) → is_set 8 f.attrs ≡ u
        → IsLaidOut (cond t (drop_node s place at) (cond u (unreserved s place at f 0 0) (cond v (unreserved s place at f (min f.attrs.reserve (pages_of (length f.bytes))) (pages_of (length f.bytes))) s)))
    last_by edits laws place closed true u v noreserve = edits.dropped s place at is (λ e. not_root s is at f there (sym e)) closed
    last_by edits laws place closed false true v noreserve =
        let held = file_held s is at f there in
        let x : Space = space_at s.layout at in
        gone_laid place 0 (reserved_from 0 x.present) (omega arith) (unreserved_kept x (maps_at s.layout at) f held.0.space laws noreserve 0)
    last_by edits laws place closed false false true noreserve =
        let held = file_held s is at f there in
        let x : Space = space_at s.layout at in
        let reserve : ℕ = min f.attrs.reserve (pages_of (length f.bytes)) in
        gone_laid place reserve (reserved_from (pages_of (length f.bytes)) x.present) (omega arith) (trimmed_kept x (maps_at s.layout at) f held.0.space laws reserve)
    last_by edits laws place closed false false false noreserve = is

    closed_by_laid : EditLaws → CloseLaws → (place : ℕ) (t : Bool) → is_open s.tree at ≡ t → IsLaidOut (cond t s (last_closed s place at f))
    closed_by_laid edits laws place true opened = is
    closed_by_laid edits laws place false closed = last_by edits laws place (closed_is s.tree at closed) (f.nlink == 0) (is_set 8 f.attrs) (is_set 16 f.attrs) refl

    pub close_laid : EditLaws → CloseLaws → (place : ℕ) → IsLaidOut (closed_by s place at f).state
    close_laid edits laws place = closed_by_laid edits laws place (is_open s.tree at) refl

    -- ---- a settle

    pub settle_laid : SettleLaws → (place : ℕ) → IsLaidOut (settle_file s place at (Ok f))
    settle_laid laws place =
        let held = file_held s is at f there in
        let x : Space = space_at s.layout at in
        let y : Space = space_settled s.layout at f in
        let maps : List ℕ = maps_at s.layout at in
        file_changed s is at f there s.tree.nodes f there (λ n ne. refl) y (kept_maps y maps) (pended place (surplus_maps y maps) s.layout.pending) held.0.mode held.0.few_links held.0.attrs
        (settled_kept x maps f held.0.space laws) (less_once s.layout is.use_of_blocks at y (kept_maps y maps) place (surplus_maps y maps) (λ b. maps_less x maps (maps_needed y) b))

  -- ---- handles

  abbrev IsFine : Option Opened → Type 0
  IsFine o = IfSome o (λ (v : Opened). IfThere (map.get s.tree.nodes v.ino) IsFileNode)

  pub opened_laid : (session handle : ℕ) (path : List ℕ) (flag : Flag) (done : Done) → open_path s session handle path flag ≡ Ok done → IsLaidOut done.state
  opened_laid session handle path flag done h =
      let o = opens s session handle path flag done h in
      let key : HandleKey = key_of session handle in
      let value : Opened = record { ino = o.ino; flag = flag } in
      subst (λ (d : Done). IsLaidOut d.state) (sym o.is) (handles_changed s (map.insert s.tree.handles key value) is (λ q.
      key_cases (IsFine (map.get (map.insert s.tree.handles key value) q)) q key
      (λ same. subst IsFine (sym (ap (map.get (map.insert s.tree.handles key value)) same ∙ opened_here s.tree.handles key value)) (subst (λ (n : Option Node). IfThere n IsFileNode) (sym o.there) tt))
      (λ other. subst IsFine (sym (opened_other s.tree.handles key value q other)) (is.handles q))))

  pub without_laid : (key : HandleKey) → IsLaidOut (with_handles s (map.remove s.tree.handles key))
  without_laid key = handles_changed s (map.remove s.tree.handles key) is (λ q.
      key_cases (IsFine (map.get (map.remove s.tree.handles key) q)) q key
      (λ same. subst IsFine (sym (ap (map.get (map.remove s.tree.handles key)) same ∙ closed_here s.tree.handles key)) tt)
      (λ other. subst IsFine (sym (closed_other s.tree.handles key q other)) (is.handles q)))

-- ---- every call

answered_laid : (s : State) (m : Maybe Done) (done : Done) → IsLaidOut s → ((d : Done) → m ≡ Ok d → IsLaidOut d.state) → Some (settled s m) ≡ Some done → IsLaidOut done.state
answered_laid s (Ok d) done is next h = subst (λ (x : Done). IsLaidOut x.state) (answered s (Ok d) done h) (next d refl)
answered_laid s (Err why) done is next h = subst (λ (x : Done). IsLaidOut x.state) (answered s (Err why) done h) is

module _ (edits : EditLaws) (places : PlaceLaws) (closes : CloseLaws) (settles : SettleLaws) where
  pub step_laid : (s : State) (place session : ℕ) (c : Call) (done : Done) → IsLaidOut s → file_step s place session c ≡ Some done → IsLaidOut done.state
  step_laid s place session (call.OpenFile handle path flag) done is h = answered_laid s (open_path s session handle path flag) done is (opened_laid s is session handle path flag) h
  step_laid s place session (call.Close handle) done is h =
      answered_laid s (close s place session handle) done is (λ d e.
      let key : HandleKey = key_of session handle in
      let left : State = with_handles s (map.remove s.tree.handles key) in
      let goes = goes_on s session handle (λ ino f. Ok (closed_by left place ino f)) d e in
      subst (λ (x : Done). IsLaidOut x.state) (sym (ok_is (closed_by left place goes.on.ino goes.on.file) d goes.is)) (close_laid left (without_laid s is key) goes.on.ino goes.on.file goes.on.there edits closes place)) h
  step_laid s place session (call.Read handle offset count) done is h =
      answered_laid s (read s session handle offset count) done is (λ d e.
      let goes = goes_on s session handle (λ ino f. read_file s offset count f) d e in
      subst (λ (x : Done). IsLaidOut x.state) (sym (ok_is _ d goes.is)) is) h
  step_laid s place session (call.Write handle offset payload) done is h =
      answered_laid s (write s session handle offset payload) done is (λ d e.
      let goes = goes_on s session handle (λ ino f. write_file s ino offset (payload_bytes payload) f) d e in
      written_laid s is goes.on.ino goes.on.file goes.on.there places offset (payload_bytes payload) d goes.is) h
  step_laid s place session (call.Truncate handle size) done is h =
      answered_laid s (truncate s place session handle size) done is (λ d e.
      let goes = goes_on s session handle (λ ino f. truncate_file s place ino size f) d e in
      truncated_laid s is goes.on.ino goes.on.file goes.on.there edits place size d goes.is) h
  step_laid s place session (call.Fsync handle) done is h =
      answered_laid s (fsync s session handle) done is (λ d e. subst (λ (x : Done). IsLaidOut x.state) (sym (fsyncs s session handle d e)) is) h
  step_laid s place session _ done is h = absurd cc

  settled_by : (s : State) (place ino : ℕ) → IsLaidOut s → (m : Maybe File) → file_at s.tree.nodes ino ≡ m → IsLaidOut (settle_file s place ino m)
  settled_by s place ino is (Ok f) found = settle_laid s is ino f (file_ok s.tree.nodes ino f found) settles place
  settled_by s place ino is (Err why) none = is

  pub settled_laid : (s : State) (place ino : ℕ) → IsLaidOut s → IsLaidOut (settle s place ino)
  settled_laid s place ino is = settled_by s place ino is (file_at s.tree.nodes ino) refl
