-- The output of a mount.
use Rattle.std.specs.Prelude.{ℕ, ◌-◌, Bool, true, false, ◌==◌, List, [], ◌∷◌, ◌++◌, length, flat_map, count_by, sum_by, decimal, codes, slice_get, Option, Some, zero, suc, if◌then◌else◌}
use Rattle.std.specs.List.{list_any}
use Rattle.vx_base.specs.declared.event.Event.{Event}
use Rattle.vx_base.specs.declared.event.Event.TheVariants as event
use Rattle.vx_base.specs.declared.reply.Reply.{Reply}
use Rattle.vx_script.specs.Words.{spaced, spaced_list}
use Rattle.vx_script.specs.Text.{words_of}

-- the session, the line and the words of an answer
abbrev pub line_text : (session line : ℕ) → Reply → List ℕ
line_text session line answer = decimal session ++ (spaced (decimal line) ++ (spaced_list (words_of answer) ++ 10 ∷ []))

-- the line of an answer, if the event is a Do of this session
abbrev pub answer_text : ℕ → Option Event → Reply → List ℕ
answer_text session (Some (event.Do at s line call reply)) answer = if s == session then line_text session line answer else []
answer_text session _ answer = []

abbrev pub event_text : List Event → ℕ → Event → List ℕ
event_text history session (event.Ret at place answer) = answer_text session (slice_get history place) answer
event_text history session _ = []

-- the lines of a session
abbrev pub session_text : List Event → ℕ → List ℕ
session_text history session = flat_map (event_text history session) history

-- the lines of the sessions below a number
unfoldable pub sessions_text : List Event → ℕ → List ℕ
sessions_text history zero = []
sessions_text history (suc n) = sessions_text history n ++ session_text history n

abbrev pub is_return : Event → Bool
is_return (event.Ret at place answer) = true
is_return _ = false

abbrev pub is_switch : Event → Bool
is_switch (event.MoveSwitch at place ino from to) = true
is_switch _ = false

abbrev pub is_stop : Event → Bool
is_stop (event.Stopped at) = true
is_stop _ = false

abbrev pub is_unmount : Option Event → Bool
is_unmount (Some (event.Unmounted at)) = true
is_unmount _ = false

-- the extents or blocks that a move found, and those that it left
abbrev pub moved_from : Event → ℕ
moved_from (event.MoveSwitch at place ino from to) = from
moved_from _ = 0

abbrev pub moved_to : Event → ℕ
moved_to (event.MoveSwitch at place ino from to) = to
moved_to _ = 0

-- how the mount ended
abbrev pub ending_text : List Event → List ℕ
ending_text history =
    if is_unmount (slice_get history (length history - 1)) then codes "done"
    else (if list_any is_stop history then codes "stopped" else codes "disabled")

abbrev pub count_text : List ℕ → ℕ → List ℕ
count_text label n = label ++ decimal n

abbrev pub summary_text : List Event → List ℕ
summary_text history =
    ending_text history
    ++ (count_text (codes " calls=") (count_by is_return history)
    ++ (count_text (codes " moves=") (count_by is_switch history)
    ++ (count_text (codes " from=") (sum_by moved_from history)
    ++ (count_text (codes " to=") (sum_by moved_to history) ++ 10 ∷ []))))

-- the lines of the sessions 0 to 15, and how the mount ended
unfoldable pub output_of : List Event → List ℕ
output_of history = sessions_text history 16 ++ summary_text history
