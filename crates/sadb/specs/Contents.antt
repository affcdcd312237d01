-- What a table holds. For how many more SPIs there is room is no part of it.
use Rattle.sadb.specs.Database.{Database}

abbrev pub table_content : Database → Database
table_content d = record d { room = 0 }
