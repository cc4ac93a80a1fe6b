-- What a call is answered tells what it leaves.
use Rattle.std.proofs.Common.{◌≡◌, ℕ, Bool, true, false, cond, List, Option, Some, None, Ok, Err, refl, subst}
use Rattle.std.specs.Prelude.{◌==◌}
use Rattle.vx_base.specs.declared.call.Call.{Call}
use Rattle.vx_base.specs.declared.call.Call.TheVariants as call
use Rattle.vx_base.specs.declared.call.Flag.{Flag}
use Rattle.vx_base.specs.declared.call.Payload.{Payload}
use Rattle.vx_base.specs.declared.refusal.Refusal.{Refusal}
use Rattle.vx_base.specs.declared.reply.Reply.TheVariants as say
use Rattle.vx_model.specs.Outcome.{Maybe}
use Rattle.vx_model.specs.Tree.{Node, IsFile, IsDirectory}
use Rattle.vx_model.specs.State.{State, Done, settled}
use Rattle.vx_model.specs.Making.{create, mkdir}
use Rattle.vx_model.specs.Removing.{fine, unlink, rmdir}
use Rattle.vx_model.specs.Linking.{link}
use Rattle.vx_model.specs.Moving.{Move, replace_by, move_onto, rename}
use Rattle.vx_model.specs.Naming.{stat_reply, list, stat, chmod}
use Rattle.vx_model.specs.Opened.{open_path, close}
use Rattle.vx_model.specs.Bytes.{read, write, truncate, fsync}
use Rattle.vx_model.specs.Step.{is_for_mount, step}
use Rattle.vx_model.proofs.Chains.{Always, bind_always, where_holds}

-- an answer that is no refusal
abbrev pub Answers : Done → Type 0
Answers done = (why : Refusal) → done.reply ≡ say.Refused why → ⊥

fine_answers : (s : State) → Answers (fine s)
fine_answers s why h = absurd cc

made_answers : (s : State) (ino : ℕ) → Answers (record { state = s; reply = say.Made ino })
made_answers s ino why h = absurd cc

got_answers : (s : State) (bytes : List ℕ) → Answers (record { state = s; reply = say.Got bytes })
got_answers s bytes why h = absurd cc

wrote_answers : (s : State) (count : ℕ) → Answers (record { state = s; reply = say.Wrote count })
wrote_answers s count why h = absurd cc

module _ (s : State) (place : ℕ) where
  replace_answers : (m : Move) (target : ℕ) (node : Node) → Always (replace_by s place m target node) Answers
  replace_answers m target (IsDirectory d) = search (bind_always, where_holds, fine_answers) depth 12
  replace_answers m target (IsFile f) = search (bind_always, fine_answers) depth 12

  onto_by : (m : Move) (target : ℕ) (t : Bool) → Always (cond t (Ok (fine s)) (replace_by s place m target m.node)) Answers
  onto_by m target true = fine_answers s
  onto_by m target false = replace_answers m target m.node

  onto_answers : (m : Move) (o : Option ℕ) → Always (move_onto s place m o) Answers
  onto_answers m None = search (bind_always, fine_answers) depth 12
  onto_answers m (Some target) = onto_by m target (target == m.from.ino)

  stat_answers : (ino : ℕ) (node : Node) → Answers (record { state = s; reply = stat_reply ino node })
  stat_answers ino (IsFile f) why h = absurd cc
  stat_answers ino (IsDirectory d) why h = absurd cc

  list_answers : (names : List (List ℕ)) → Answers (record { state = s; reply = say.Listing names })
  list_answers names why h = absurd cc

  of_settled : (done : Done) (m : Maybe Done) (why : Refusal) → Some (settled s m) ≡ Some done → done.reply ≡ say.Refused why → Always m Answers → done.state ≡ s
  of_settled done (Ok x) why h refused a = let e : x ≡ done = cc in absurd (subst Answers e a why refused)
  of_settled done (Err y) why h refused a =
      let e : ◌≡◌ {A = Done} (record { state = s; reply = say.Refused y }) done = cc in
      subst (λ (d : Done). d.state ≡ s) e refl

  create_answers : (path : List ℕ) (mode : ℕ) → Always (create s path mode) Answers
  create_answers path mode = search (bind_always, where_holds, made_answers) depth 12

  mkdir_answers : (path : List ℕ) (mode : ℕ) → Always (mkdir s path mode) Answers
  mkdir_answers path mode = search (bind_always, where_holds, made_answers) depth 12

  unlink_answers : (path : List ℕ) → Always (unlink s place path) Answers
  unlink_answers path = search (bind_always, fine_answers) depth 12

  rmdir_answers : (path : List ℕ) → Always (rmdir s place path) Answers
  rmdir_answers path = search (bind_always, where_holds, fine_answers) depth 12

  link_answers : (old new : List ℕ) → Always (link s old new) Answers
  link_answers old new = search (bind_always, where_holds, fine_answers) depth 16

  pub rename_answers : (old new : List ℕ) → Always (rename s place old new) Answers
  rename_answers old new = search (bind_always, where_holds, onto_answers) depth 16

  chmod_answers : (path : List ℕ) (mode : ℕ) → Always (chmod s path mode) Answers
  chmod_answers path mode = search (bind_always, fine_answers) depth 12

  stat_path_answers : (path : List ℕ) → Always (stat s path) Answers
  stat_path_answers path = search (bind_always, stat_answers) depth 12

  list_path_answers : (path : List ℕ) → Always (list s path) Answers
  list_path_answers path = search (bind_always, list_answers) depth 12

  open_answers : (session handle : ℕ) (path : List ℕ) (flag : Flag) → Always (open_path s session handle path flag) Answers
  open_answers session handle path flag = search (bind_always, where_holds, fine_answers) depth 16

  close_answers : (session handle : ℕ) → Always (close s place session handle) Answers
  close_answers session handle = search (bind_always, fine_answers) depth 12

  read_answers : (session handle offset count : ℕ) → Always (read s session handle offset count) Answers
  read_answers session handle offset count = search (bind_always, got_answers) depth 12

  write_answers : (session handle offset : ℕ) (p : Payload) → Always (write s session handle offset p) Answers
  write_answers session handle offset p = search (bind_always, where_holds, wrote_answers) depth 16

  truncate_answers : (session handle size : ℕ) → Always (truncate s place session handle size) Answers
  truncate_answers session handle size = search (bind_always, where_holds, fine_answers) depth 16

  fsync_answers : (session handle : ℕ) → Always (fsync s session handle) Answers
  fsync_answers session handle = search (bind_always, fine_answers) depth 12

  pub refused : (session : ℕ) (c : Call) (done : Done) (why : Refusal) → step s place session c ≡ Some done → done.reply ≡ say.Refused why → done.state ≡ s
  refused session (call.Create path mode) done why h r = of_settled done (create s path mode) why h r (create_answers path mode)
  refused session (call.Mkdir path mode) done why h r = of_settled done (mkdir s path mode) why h r (mkdir_answers path mode)
  refused session (call.Unlink path) done why h r = of_settled done (unlink s place path) why h r (unlink_answers path)
  refused session (call.Rmdir path) done why h r = of_settled done (rmdir s place path) why h r (rmdir_answers path)
  refused session (call.Link old new) done why h r = of_settled done (link s old new) why h r (link_answers old new)
  refused session (call.Rename old new) done why h r = of_settled done (rename s place old new) why h r (rename_answers old new)
  refused session (call.Chmod path mode) done why h r = of_settled done (chmod s path mode) why h r (chmod_answers path mode)
  refused session (call.Stat path) done why h r = of_settled done (stat s path) why h r (stat_path_answers path)
  refused session (call.List path) done why h r = of_settled done (list s path) why h r (list_path_answers path)
  refused session (call.OpenFile handle path flag) done why h r = of_settled done (open_path s session handle path flag) why h r (open_answers session handle path flag)
  refused session (call.Close handle) done why h r = of_settled done (close s place session handle) why h r (close_answers session handle)
  refused session (call.Read handle offset count) done why h r = of_settled done (read s session handle offset count) why h r (read_answers session handle offset count)
  refused session (call.Write handle offset payload) done why h r = of_settled done (write s session handle offset payload) why h r (write_answers session handle offset payload)
  refused session (call.Truncate handle size) done why h r = of_settled done (truncate s place session handle size) why h r (truncate_answers session handle size)
  refused session (call.Fsync handle) done why h r = of_settled done (fsync s session handle) why h r (fsync_answers session handle)
  refused session call.Sync done why h r = of_settled done (Ok (fine s)) why h r (fine_answers s)
  refused session call.Tick done why h r = of_settled done (Ok (fine s)) why h r (fine_answers s)
  refused session (call.After other lines) done why h r = of_settled done (Ok (fine s)) why h r (fine_answers s)
  refused session call.Stop done why h r = of_settled done (Ok (fine s)) why h r (fine_answers s)
  refused session _ done why h r = absurd cc

-- ---- calls that only ask

abbrev Stays : State → Done → Type 0
Stays s done = done.state ≡ s

stays_settled : (s : State) (done : Done) (m : Maybe Done) → Some (settled s m) ≡ Some done → Always m (Stays s) → done.state ≡ s
stays_settled s done (Ok x) h a = let e : x ≡ done = cc in subst (Stays s) e a
stays_settled s done (Err why) h a =
    let e : ◌≡◌ {A = Done} (record { state = s; reply = say.Refused why }) done = cc in
    subst (Stays s) e refl

stat_stays : (s : State) (path : List ℕ) → Always (stat s path) (Stays s)
stat_stays s path = search bind_always depth 12

list_stays : (s : State) (path : List ℕ) → Always (list s path) (Stays s)
list_stays s path = search bind_always depth 12

pub stat_leaves : (s : State) (place session : ℕ) (path : List ℕ) (done : Done) → step s place session (call.Stat path) ≡ Some done → done.state ≡ s
stat_leaves s place session path done h = stays_settled s done (stat s path) h (stat_stays s path)

pub list_leaves : (s : State) (place session : ℕ) (path : List ℕ) (done : Done) → step s place session (call.List path) ≡ Some done → done.state ≡ s
list_leaves s place session path done h = stays_settled s done (list s path) h (list_stays s path)

-- a call to the mount leaves everything as it was, and is answered with Fine
pub mount_leaves : (s : State) (done : Done) → Some (fine s) ≡ Some done → done.state ≡ s
mount_leaves s done h = stays_settled s done (Ok (fine s)) h refl

pub mount_fine : (s : State) (place session : ℕ) (c : Call) (done : Done) → is_for_mount c ≡ true → step s place session c ≡ Some done → done ≡ fine s
mount_fine s place session call.Sync done is h = cc
mount_fine s place session call.Tick done is h = cc
mount_fine s place session (call.After other lines) done is h = cc
mount_fine s place session call.Stop done is h = cc
mount_fine s place session _ done is h = absurd cc
