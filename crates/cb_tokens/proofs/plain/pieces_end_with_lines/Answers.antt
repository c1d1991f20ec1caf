use Rattle.cb_tokens.proofs.Feeds.{white_in_line, line_end_in_line, token_in_line}
use Rattle.cb_tokens.proofs.plain.pieces_end_with_lines.Goals as goal

pub returns : goal.returns
returns c = record { white = white_in_line; line_end = line_end_in_line; token = token_in_line }
