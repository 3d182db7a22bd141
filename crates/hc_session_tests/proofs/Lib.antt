mod OnTables
