-- `ie::Ie::unmarshal_all` meets its contract: 5, then what the first way finds, 8, then the second way.
use Rattle.ie.proofs.Calls.{too_long, too_long_left, refused, refused_left, no_room, no_room_left, done, done_table}
use Rattle.ie.proofs.Ie.unmarshal_all.Goals as goal

pub returns-then-length-gt65535 : goal.returns-then-length-gt65535
returns-then-length-gt65535 c = record { value = search too_long; table_after = search too_long_left }

pub returns-then-table-rows : goal.returns-then-table-rows
returns-then-table-rows c = record { value = search no_room; table_after = search no_room_left }

pub returns-in-Err : goal.returns-in-Err
returns-in-Err c = record { value = search refused; table_after = search refused_left }

pub returns-else-table-rows : goal.returns-else-table-rows
returns-else-table-rows c = record { value = search done; table_after = search done_table }
