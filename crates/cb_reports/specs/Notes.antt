-- The report of what was absent, passed over or noted.
use Rattle.std.specs.Prelude.{ℕ, ◌==◌, if◌then◌else◌, List, [], ◌∷◌, ◌++◌, codes, decimal}
use Rattle.std.specs.List.{flat_map}
use Rattle.cb_reports.specs.declared.rows.AbsentRow.{AbsentRow}
use Rattle.cb_reports.specs.declared.rows.Idle.{Idle}
use Rattle.cb_reports.specs.declared.rows.Idle.TheVariants.{Outside, Unsupported}
use Rattle.cb_reports.specs.declared.rows.IdleRow.{IdleRow}
use Rattle.cb_reports.specs.declared.rows.NoteRow.{NoteRow}
use Rattle.cb_reports.specs.Words.{line}
use Rattle.cb_reports.specs.Details.{detail_text}

-- the name of a kind of note, by its number from 1 to 10 (own)
abbrev pub kind_name : ℕ → List ℕ
kind_name kind =
    if kind == 1 then codes "Missing"
    else (if kind == 2 then codes "BadInclude"
    else (if kind == 3 then codes "BadDefine"
    else (if kind == 4 then codes "Redefined"
    else (if kind == 5 then codes "BadCondition"
    else (if kind == 6 then codes "TooLong"
    else (if kind == 7 then codes "TooDeep"
    else (if kind == 8 then codes "Budget"
    else (if kind == 9 then codes "ErrorReached" else codes "NoMain"))))))))

-- a platform whose database is absent (own)
abbrev pub absent_line : AbsentRow → List ℕ
absent_line row = line (codes "database " ++ row.platform ++ codes " " ++ row.path ++ codes " absent")

-- why an entry of a database makes no command (own)
abbrev pub idle_name : Idle → List ℕ
idle_name Outside = codes "outside"
idle_name Unsupported = codes "unsupported"

-- an entry of a database that makes no command (own)
abbrev pub idle_line : IdleRow → List ℕ
idle_line row = line (codes "command " ++ decimal row.command ++ codes " " ++ row.platform ++ codes " " ++ idle_name row.why)

-- where a note stands: at a line, or at the start of a command, which is node 0 (own)
abbrev pub place_text : NoteRow → List ℕ
place_text row = row.path ++ codes ":" ++ (if row.node == 0 then codes "start" else decimal row.line)

-- a note, with the number of its commands and the least of them (own)
abbrev pub note_line : NoteRow → List ℕ
note_line row =
    line (codes "note " ++ place_text row ++ codes " " ++ kind_name row.kind ++ codes " " ++ detail_text row.detail
    ++ codes " commands " ++ decimal row.commands ++ codes " first " ++ decimal row.first)

-- a text, or another one where it is empty (own)
abbrev pub or_else : List ℕ → List ℕ → List ℕ
or_else [] other = other
or_else (b ∷ bs) other = b ∷ bs

-- the whole report (own)
abbrev pub notes_text : List AbsentRow → List IdleRow → List NoteRow → List ℕ
notes_text databases idle notes =
    or_else (flat_map absent_line databases ++ flat_map idle_line idle ++ flat_map note_line notes) (line (codes "notes none"))
