-- The kinds of notes (own).
use Rattle.std.specs.Prelude.{ℕ, List, codes}
use Rattle.cb_pass.specs.declared.note.NoteKind.{NoteKind}
use Rattle.cb_pass.specs.declared.note.NoteKind.TheVariants.{Missing, BadInclude, BadDefine, Redefined, BadCondition, TooLong, TooDeep, Budget, ErrorReached, NoMain}

-- the number of a kind of notes (own)
abbrev pub note_number : NoteKind → ℕ
note_number Missing = 1
note_number BadInclude = 2
note_number BadDefine = 3
note_number Redefined = 4
note_number BadCondition = 5
note_number TooLong = 6
note_number TooDeep = 7
note_number Budget = 8
note_number ErrorReached = 9
note_number NoMain = 10

-- the name of a kind of notes (own)
abbrev pub note_name : NoteKind → List ℕ
note_name Missing = codes "Missing"
note_name BadInclude = codes "BadInclude"
note_name BadDefine = codes "BadDefine"
note_name Redefined = codes "Redefined"
note_name BadCondition = codes "BadCondition"
note_name TooLong = codes "TooLong"
note_name TooDeep = codes "TooDeep"
note_name Budget = codes "Budget"
note_name ErrorReached = codes "ErrorReached"
note_name NoMain = codes "NoMain"
