-- What a page is told of its user and of its server, behind a view.
use Rattle.std.specs.Prelude.{ℕ, Bool, List, ◌++◌, codes, decimal, if◌then◌else◌}
use Rattle.gx_text.specs.Shown.{json_name}
use Rattle.gx_board.specs.declared.view.BoardView.{BoardView}
use Rattle.gx_json.specs.Parts.{bool_text, member}
use Rattle.gx_status.specs.{declared.{server.ServerFigures.ServerFigures, viewer.Viewer.Viewer}, States.view_members}

-- whether there is a journal, in a word
abbrev pub journal_word : Bool → List ℕ
journal_word is_journaled = if is_journaled then codes "kept" else codes "none"

-- who looks at it, whether he may kill, and what his page gives back with what it asks for
unfoldable pub viewer_members : Viewer → List ℕ
viewer_members v = member (codes "user") (json_name v.user.bytes) ++ member (codes "may_kill") (bool_text v.may_kill) ++ member (codes "token") (json_name v.token)

-- whether the server has a journal, and how many connections it serves
unfoldable pub server_members : ServerFigures → List ℕ
server_members s = member (codes "journal") (json_name (journal_word s.is_journaled)) ++ member (codes "connections") (decimal s.connections)

-- the object
abbrev pub page_text : BoardView → Viewer → List ℕ
page_text view v = view_members view ++ viewer_members v ++ server_members v.server ++ codes "}"
