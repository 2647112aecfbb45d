mod ListedColumns
