-- Whole calls for statements that are computed: what unfolds `called` unfolds all definitions of document 01. Assumes nothing.
use Prim.Native.Nat.{ℕ}
use mathlib.Core.List.{List, [], ◌∷◌, ◌++◌}
use lib.ListN.{length, replicate}
use Rattle.rules.specs.Bytes.{pick, bytes, is, within, same, before, all, run, overwrite, to_little, from_little}
use Rattle.rules.specs.Utf8.{◌to◌, rows, in_range, due_after, follows, well_formed, leading, trailing, code_point}
use Rattle.rules.specs.Tokens.{Token, token, is_a, no_name, pooled, shown_name}
use Rattle.rules.specs.Numbers.{lex_number, refusal_number, number, details, no_detail, code_point_of, field_of, variable_of, refusal_detail, detail, ◌>>=◌}
use Rattle.rules.specs.Lexing.{is_identifier, is_line_end, class, second, after_backslash, after_name, after_brace, after_dollar, comment, lexeme, nothing_yet, first_source, gather, text_token, flush, prepend, lex, tokens, pool_of}
use Rattle.rules.specs.Lines.{as_part, on_first, lines, skip_blanks, drop_last_blank, trimmed, string_value, is_quote, role_outside, next_is, role_inside, role, listed, arguments, list_value, field_keys, field, is_string, read_field, read_assignment, nothing_after_key, after_key, after_blanks, read_line, no_lines, assigned, insert, field_at, keep, read_lines}
use Rattle.rules.specs.Variables.{limit, rank_of, look_up, rules_of, bounded, expand, pass, lacking, left, passes, resolve, key_at, resolve_variables}
use Rattle.rules.specs.Fields.{expanded, resolve_parts, resolve_arguments, resolve_template, fields_from, resolve_fields}
use Rattle.rules.specs.Records.{record_bytes, argument_records, records_of, records}
use Rattle.rules.specs.Reading.{file, records_of_file, reading}
use Rattle.rules.specs.Reader.{Buffers, Outcome, room, pool_after, zeroed, read_buffers, written, untouched, read}
use Rattle.rules.specs.Listing.{digits, decimal, listing_line, form, prefixed, less, front, listing_lines, lines_of_records, listing}
use Rattle.rules.specs.Export.{name_bytes, detail_bytes, with_detail, exported_in, exported}
use Rattle.rules.specs.Pclist.{first_line, need_of, pc_line, bytes_written, with_listing, printed, pclist}

-- place and length of a name
unfoldable pub shown_as : Token → List ℕ
shown_as name = name.place ∷ length name.text ∷ []

-- what a caller sees of an outcome: number and detail, workspace, pool, output
unfoldable pub seen : Outcome → List (List ℕ)
seen o = (number o.answer ∷ (detail o.answer).value ∷ shown_as (detail o.answer).first ++ shown_as (detail o.answer).second)
    ∷ o.after.workspace ∷ o.after.pool ∷ o.after.output ∷ []

-- buffers that are not clean
unfoldable pub dirty : ℕ → ℕ → ℕ → Buffers
dirty w p o = record { workspace = replicate w 7; pool = replicate p 251; output = replicate o 252 }

unfoldable pub called : List ℕ → ℕ → ℕ → ℕ → List (List ℕ)
unfolding pick bytes is within same before all run overwrite to_little from_little ◌to◌ rows in_range due_after follows well_formed leading trailing code_point token is_a no_name pooled shown_name lex_number refusal_number number details no_detail code_point_of field_of variable_of refusal_detail detail ◌>>=◌ is_identifier is_line_end class second after_backslash after_name after_brace after_dollar comment lexeme nothing_yet first_source gather text_token flush prepend lex tokens pool_of as_part on_first lines skip_blanks drop_last_blank trimmed string_value is_quote role_outside next_is role_inside role listed arguments list_value field_keys field is_string read_field read_assignment nothing_after_key after_key after_blanks read_line no_lines assigned insert field_at keep read_lines limit rank_of look_up rules_of bounded expand pass lacking left passes resolve key_at resolve_variables expanded resolve_parts resolve_arguments resolve_template fields_from resolve_fields record_bytes argument_records records_of records file records_of_file reading room pool_after zeroed read_buffers written untouched read digits decimal listing_line form prefixed less front listing_lines lines_of_records listing name_bytes detail_bytes with_detail exported_in exported first_line need_of pc_line bytes_written with_listing printed pclist shown_as seen dirty
called text w p o = seen (read text (dirty w p o))
